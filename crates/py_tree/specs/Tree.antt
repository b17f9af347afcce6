-- The syntax tree as the definitions see it: no pointers, and a name is the list of its bytes.
use Rattle.std.specs.Prelude.{ℕ, Bool, List as Seq, Option}
use Rattle.py_base.specs.Literal.{Literal}
use Rattle.py_base.specs.declared.location.SourceLocation.{SourceLocation}
use Rattle.py_base.specs.declared.operators.BoolOp.{BoolOp as BoolOperator}
use Rattle.py_base.specs.declared.operators.Operator.{Operator}
use Rattle.py_base.specs.declared.operators.UnaryOp.{UnaryOp as UnaryOperator}
use Rattle.py_base.specs.declared.operators.CmpOp.{CmpOp}
use Rattle.py_base.specs.declared.operators.ConversionFlag.{ConversionFlag}
use Rattle.py_tree.specs.declared.statements.Alias.{Alias}

mutual
  pub data Expr : Type 0 where
    BoolOp : SourceLocation → BoolOperator → Exprs → Expr
    NamedExpr : SourceLocation → (target value : Expr) → Expr
    BinOp : SourceLocation → Expr → Operator → Expr → Expr
    UnaryOp : SourceLocation → UnaryOperator → Expr → Expr
    Lambda : SourceLocation → Arguments → (body : Expr) → Expr
    IfExp : SourceLocation → (test body orelse : Expr) → Expr
    Dict : SourceLocation → OptExprs → Exprs → Expr
    Set : SourceLocation → Exprs → Expr
    ListComp : SourceLocation → (elt : Expr) → Generators → Expr
    SetComp : SourceLocation → (elt : Expr) → Generators → Expr
    DictComp : SourceLocation → (key value : Expr) → Generators → Expr
    GeneratorExp : SourceLocation → (elt : Expr) → Generators → Expr
    Await : SourceLocation → Expr → Expr
    Yield : SourceLocation → OptExpr → Expr
    YieldFrom : SourceLocation → Expr → Expr
    Compare : SourceLocation → Expr → Seq CmpOp → Exprs → Expr
    Call : SourceLocation → Expr → Exprs → Keywords → Expr
    FormattedValue : SourceLocation → Expr → ConversionFlag → OptExpr → Expr
    JoinedStr : SourceLocation → Exprs → Expr
    Constant : SourceLocation → Literal → Expr
    Attribute : SourceLocation → Expr → Seq ℕ → Expr
    Subscript : SourceLocation → (value slice : Expr) → Expr
    Starred : SourceLocation → Expr → Expr
    Name : SourceLocation → Seq ℕ → Expr
    List : SourceLocation → Exprs → Expr
    Tuple : SourceLocation → Exprs → Expr
    Slice : SourceLocation → (lower upper step : OptExpr) → Expr

  pub data Exprs : Type 0 where
    no_exprs : Exprs
    more_exprs : Expr → Exprs → Exprs

  -- an expression that may be missing
  pub data OptExpr : Type 0 where
    no_expr : OptExpr
    some_expr : Expr → OptExpr

  pub data OptExprs : Type 0 where
    no_opts : OptExprs
    more_opts : OptExpr → OptExprs → OptExprs

  -- arguments that have a name, or are unpacked
  pub data Keywords : Type 0 where
    no_keywords : Keywords
    more_keywords : Option (Seq ℕ) → Expr → Keywords → Keywords

  -- the `for` clauses of a comprehension
  pub data Generators : Type 0 where
    no_generators : Generators
    more_generators : (target iter : Expr) → (ifs : Exprs) → (is_async : Bool) → Generators → Generators

  -- a parameter
  pub data Arg : Type 0 where
    arg : SourceLocation → (name : Seq ℕ) → (annotation : OptExpr) → Arg

  pub data OptArg : Type 0 where
    no_arg : OptArg
    some_arg : Arg → OptArg

  -- parameters that may have defaults
  pub data Args : Type 0 where
    no_args : Args
    more_args : Arg → (default : OptExpr) → Args → Args

  pub data Arguments : Type 0 where
    arguments : (posonlyargs args : Args) → (vararg : OptArg) → (kwonlyargs : Args) → (kwarg : OptArg) → Arguments

pub data TypeParam : Type 0 where
  TypeVar : SourceLocation → (name : Seq ℕ) → (bound : OptExpr) → TypeParam
  ParamSpec : SourceLocation → (name : Seq ℕ) → TypeParam
  TypeVarTuple : SourceLocation → (name : Seq ℕ) → TypeParam

pub data TypeParams : Type 0 where
  no_type_params : TypeParams
  more_type_params : TypeParam → TypeParams → TypeParams

-- what a `with` enters, and the target of each
pub data WithItems : Type 0 where
  no_items : WithItems
  more_items : (context_expr : Expr) → (optional_vars : OptExpr) → WithItems → WithItems

mutual
  pub data Stmt : Type 0 where
    FunctionDef : SourceLocation → (name : Seq ℕ) → Arguments → (body : Stmts) → (decorator_list : Exprs) → (returns : OptExpr) → TypeParams → Stmt
    AsyncFunctionDef : SourceLocation → (name : Seq ℕ) → Arguments → (body : Stmts) → (decorator_list : Exprs) → (returns : OptExpr) → TypeParams → Stmt
    ClassDef : SourceLocation → (name : Seq ℕ) → (bases : Exprs) → Keywords → (body : Stmts) → (decorator_list : Exprs) → TypeParams → Stmt
    Return : SourceLocation → OptExpr → Stmt
    Delete : SourceLocation → Exprs → Stmt
    Assign : SourceLocation → Exprs → Expr → Stmt
    TypeAlias : SourceLocation → (name : Expr) → TypeParams → (value : Expr) → Stmt
    AugAssign : SourceLocation → Expr → Operator → Expr → Stmt
    AnnAssign : SourceLocation → (target annotation : Expr) → OptExpr → Bool → Stmt
    For : SourceLocation → (target iter : Expr) → (body orelse : Stmts) → Stmt
    AsyncFor : SourceLocation → (target iter : Expr) → (body orelse : Stmts) → Stmt
    While : SourceLocation → Expr → (body orelse : Stmts) → Stmt
    If : SourceLocation → Expr → (body orelse : Stmts) → Stmt
    With : SourceLocation → WithItems → (body : Stmts) → Stmt
    AsyncWith : SourceLocation → WithItems → (body : Stmts) → Stmt
    Match : SourceLocation → (subject : Expr) → Cases → Stmt
    Raise : SourceLocation → (exc cause : OptExpr) → Stmt
    Try : SourceLocation → (body : Stmts) → Handlers → (orelse finalbody : Stmts) → Stmt
    TryStar : SourceLocation → (body : Stmts) → Handlers → (orelse finalbody : Stmts) → Stmt
    Assert : SourceLocation → (test : Expr) → (msg : OptExpr) → Stmt
    Import : SourceLocation → Seq Alias → Stmt
    ImportFrom : SourceLocation → (path : Option (Seq ℕ)) → Seq Alias → (level : ℕ) → Stmt
    Global : SourceLocation → Seq (Seq ℕ) → Stmt
    Nonlocal : SourceLocation → Seq (Seq ℕ) → Stmt
    StmtExpr : SourceLocation → Expr → Stmt
    Pass : SourceLocation → Stmt
    Break : SourceLocation → Stmt
    Continue : SourceLocation → Stmt

  pub data Stmts : Type 0 where
    no_stmts : Stmts
    more_stmts : Stmt → Stmts → Stmts

  -- the `except` clauses of a `try`
  pub data Handlers : Type 0 where
    no_handlers : Handlers
    more_handlers : (type_ : OptExpr) → (name : Option (Seq ℕ)) → (body : Stmts) → Handlers → Handlers

  -- the `case` clauses of a `match`, without their patterns
  pub data Cases : Type 0 where
    no_cases : Cases
    more_cases : (body : Stmts) → Cases → Cases

pub data Mod : Type 0 where
  Module : Stmts → Mod
  Interactive : Stmts → Mod
  Expression : Expr → Mod
  FunctionType : (argtypes : Exprs) → (returns : Expr) → Mod

-- where an expression starts
abbrev pub expr_location : Expr → SourceLocation
expr_location (BoolOp at op values) = at
expr_location (NamedExpr at target value) = at
expr_location (BinOp at left op right) = at
expr_location (UnaryOp at op operand) = at
expr_location (Lambda at params body) = at
expr_location (IfExp at test body orelse) = at
expr_location (Dict at keys values) = at
expr_location (Set at elts) = at
expr_location (ListComp at elt clauses) = at
expr_location (SetComp at elt clauses) = at
expr_location (DictComp at key value clauses) = at
expr_location (GeneratorExp at elt clauses) = at
expr_location (Await at value) = at
expr_location (Yield at value) = at
expr_location (YieldFrom at value) = at
expr_location (Compare at left ops comparators) = at
expr_location (Call at func args named) = at
expr_location (FormattedValue at value conversion format_spec) = at
expr_location (JoinedStr at values) = at
expr_location (Constant at value) = at
expr_location (Attribute at value attr) = at
expr_location (Subscript at value slice) = at
expr_location (Starred at value) = at
expr_location (Name at id) = at
expr_location (List at elts) = at
expr_location (Tuple at elts) = at
expr_location (Slice at lower upper step) = at

-- where a statement starts
abbrev pub stmt_location : Stmt → SourceLocation
stmt_location (FunctionDef at name params body decorators returns generic) = at
stmt_location (AsyncFunctionDef at name params body decorators returns generic) = at
stmt_location (ClassDef at name bases named body decorators generic) = at
stmt_location (Return at value) = at
stmt_location (Delete at targets) = at
stmt_location (Assign at targets value) = at
stmt_location (TypeAlias at name generic value) = at
stmt_location (AugAssign at target op value) = at
stmt_location (AnnAssign at target annotation value simple) = at
stmt_location (For at target iter body orelse) = at
stmt_location (AsyncFor at target iter body orelse) = at
stmt_location (While at test body orelse) = at
stmt_location (If at test body orelse) = at
stmt_location (With at items body) = at
stmt_location (AsyncWith at items body) = at
stmt_location (Match at subject branches) = at
stmt_location (Raise at exc cause) = at
stmt_location (Try at body excepts orelse finalbody) = at
stmt_location (TryStar at body excepts orelse finalbody) = at
stmt_location (Assert at test msg) = at
stmt_location (Import at names) = at
stmt_location (ImportFrom at path names level) = at
stmt_location (Global at names) = at
stmt_location (Nonlocal at names) = at
stmt_location (StmtExpr at value) = at
stmt_location (Pass at) = at
stmt_location (Break at) = at
stmt_location (Continue at) = at

-- where a type parameter starts
abbrev pub type_param_location : TypeParam → SourceLocation
type_param_location (TypeVar at name bound) = at
type_param_location (ParamSpec at name) = at
type_param_location (TypeVarTuple at name) = at
