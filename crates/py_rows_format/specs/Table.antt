-- The kinds of rows: the word of each, what its rows are, their fields, and the node that is made of these.
use Rattle.std.specs.Prelude.{Bool, true, false, List, [], ◌∷◌, ℕ, codes}
use Prim.Native.String.{String}
use Rattle.py_base.specs.Literal as literal
use Rattle.py_base.specs.declared.location.SourceLocation.{SourceLocation}
use Rattle.py_tree.specs.Tree as tree
use Rattle.py_rows_format.specs.Fields.{Field, FieldValue, Letter, Node, Sort, one, maybe, many, keys, text, truth, small, integer, bytes, operator, node}
use Rattle.py_rows_format.specs.Fields.Operators.{Joining, Binary, Unary, Comparing, Converting}

-- what makes an A of such fields, one after another
abbrev pub Of : List Field → Type 0 → Type 0
Of [] A = A
Of (f ∷ fs) A = FieldValue f → Of fs A

pub record Kind : Type 0 where
  pub word : List ℕ
  pub sort : Sort
  pub fields : List Field
  pub make : SourceLocation → Of fields (Node sort)

-- whether rows say their line and column, before their fields
abbrev pub is_located : Sort → Bool
is_located Sort.Stmt = true
is_located Sort.Expr = true
is_located Sort.Arg = true
is_located Sort.TypeParam = true
is_located s = false

-- a kind whose nodes have their place
abbrev located : (s : Sort) → String → (fs : List Field) → (SourceLocation → Of fs (Node s)) → Kind
located s w fs f = record { word = codes w; sort = s; fields = fs; make = f }

-- another kind
abbrev plain : (s : Sort) → String → (fs : List Field) → Of fs (Node s) → Kind
plain s w fs f = record { word = codes w; sort = s; fields = fs; make = λ at. f }

-- a name, and the number of a row of each sort that a field may name
abbrev name : Letter
name = text

abbrev stmt : Letter
stmt = node Sort.Stmt

abbrev expr : Letter
expr = node Sort.Expr

abbrev constant : Letter
constant = node Sort.Constant

abbrev arguments : Letter
arguments = node Sort.Arguments

abbrev arg_with_default : Letter
arg_with_default = node Sort.ArgWithDefault

abbrev arg : Letter
arg = node Sort.Arg

abbrev keyword : Letter
keyword = node Sort.Keyword

abbrev alias : Letter
alias = node Sort.Alias

abbrev with_item : Letter
with_item = node Sort.WithItem

abbrev handler : Letter
handler = node Sort.ExceptHandler

abbrev comprehension : Letter
comprehension = node Sort.Comprehension

abbrev match_case : Letter
match_case = node Sort.MatchCase

abbrev type_param : Letter
type_param = node Sort.TypeParam

-- the 79 kinds: programs, statements, expressions, what stands in them, and constants
abbrev pub kinds : List Kind
kinds =
    plain Sort.Mod "Module" (many stmt ∷ []) tree.Module
    ∷ plain Sort.Mod "Interactive" (many stmt ∷ []) tree.Interactive
    ∷ plain Sort.Mod "Expression" (one expr ∷ []) tree.Expression
    ∷ plain Sort.Mod "FunctionType" (many expr ∷ one expr ∷ []) tree.FunctionType
    ∷ located Sort.Stmt "FunctionDef"
    (one name ∷ one arguments ∷ many stmt
    ∷ many expr ∷ maybe expr ∷ many type_param ∷ []) tree.FunctionDef
    ∷ located Sort.Stmt "AsyncFunctionDef"
    (one name ∷ one arguments ∷ many stmt
    ∷ many expr ∷ maybe expr ∷ many type_param ∷ []) tree.AsyncFunctionDef
    ∷ located Sort.Stmt "ClassDef"
    (one name ∷ many expr ∷ many keyword
    ∷ many stmt ∷ many expr ∷ many type_param ∷ []) tree.ClassDef
    ∷ located Sort.Stmt "Return" (maybe expr ∷ []) tree.Return
    ∷ located Sort.Stmt "Delete" (many expr ∷ []) tree.Delete
    ∷ located Sort.Stmt "Assign" (many expr ∷ one expr ∷ []) tree.Assign
    ∷ located Sort.Stmt "TypeAlias" (one expr ∷ many type_param ∷ one expr ∷ []) tree.TypeAlias
    ∷ located Sort.Stmt "AugAssign"
    (one expr ∷ one (operator Binary) ∷ one expr ∷ []) tree.AugAssign
    ∷ located Sort.Stmt "AnnAssign"
    (one expr ∷ one expr ∷ maybe expr ∷ one truth ∷ []) tree.AnnAssign
    ∷ located Sort.Stmt "For" (one expr ∷ one expr ∷ many stmt ∷ many stmt ∷ []) tree.For
    ∷ located Sort.Stmt "AsyncFor" (one expr ∷ one expr ∷ many stmt ∷ many stmt ∷ []) tree.AsyncFor
    ∷ located Sort.Stmt "While" (one expr ∷ many stmt ∷ many stmt ∷ []) tree.While
    ∷ located Sort.Stmt "If" (one expr ∷ many stmt ∷ many stmt ∷ []) tree.If
    ∷ located Sort.Stmt "With" (many with_item ∷ many stmt ∷ []) tree.With
    ∷ located Sort.Stmt "AsyncWith" (many with_item ∷ many stmt ∷ []) tree.AsyncWith
    ∷ located Sort.Stmt "Match" (one expr ∷ many match_case ∷ []) tree.Match
    ∷ located Sort.Stmt "Raise" (maybe expr ∷ maybe expr ∷ []) tree.Raise
    ∷ located Sort.Stmt "Try" (many stmt ∷ many handler ∷ many stmt ∷ many stmt ∷ []) tree.Try
    ∷ located Sort.Stmt "TryStar"
    (many stmt ∷ many handler ∷ many stmt ∷ many stmt ∷ []) tree.TryStar
    ∷ located Sort.Stmt "Assert" (one expr ∷ maybe expr ∷ []) tree.Assert
    ∷ located Sort.Stmt "Import" (many alias ∷ []) tree.Import
    ∷ located Sort.Stmt "ImportFrom" (maybe name ∷ many alias ∷ one small ∷ []) tree.ImportFrom
    ∷ located Sort.Stmt "Global" (many name ∷ []) tree.Global
    ∷ located Sort.Stmt "Nonlocal" (many name ∷ []) tree.Nonlocal
    ∷ located Sort.Stmt "Expr" (one expr ∷ []) tree.StmtExpr
    ∷ located Sort.Stmt "Pass" [] tree.Pass
    ∷ located Sort.Stmt "Break" [] tree.Break
    ∷ located Sort.Stmt "Continue" [] tree.Continue
    ∷ located Sort.Expr "BoolOp" (one (operator Joining) ∷ many expr ∷ []) tree.BoolOp
    ∷ located Sort.Expr "NamedExpr" (one expr ∷ one expr ∷ []) tree.NamedExpr
    ∷ located Sort.Expr "BinOp" (one expr ∷ one (operator Binary) ∷ one expr ∷ []) tree.BinOp
    ∷ located Sort.Expr "UnaryOp" (one (operator Unary) ∷ one expr ∷ []) tree.UnaryOp
    ∷ located Sort.Expr "Lambda" (one arguments ∷ one expr ∷ []) tree.Lambda
    ∷ located Sort.Expr "IfExp" (one expr ∷ one expr ∷ one expr ∷ []) tree.IfExp
    ∷ located Sort.Expr "Dict" (keys ∷ many expr ∷ []) tree.Dict
    ∷ located Sort.Expr "Set" (many expr ∷ []) tree.Set
    ∷ located Sort.Expr "List" (many expr ∷ []) tree.List
    ∷ located Sort.Expr "Tuple" (many expr ∷ []) tree.Tuple
    ∷ located Sort.Expr "ListComp" (one expr ∷ many comprehension ∷ []) tree.ListComp
    ∷ located Sort.Expr "SetComp" (one expr ∷ many comprehension ∷ []) tree.SetComp
    ∷ located Sort.Expr "GeneratorExp" (one expr ∷ many comprehension ∷ []) tree.GeneratorExp
    ∷ located Sort.Expr "DictComp" (one expr ∷ one expr ∷ many comprehension ∷ []) tree.DictComp
    ∷ located Sort.Expr "Await" (one expr ∷ []) tree.Await
    ∷ located Sort.Expr "YieldFrom" (one expr ∷ []) tree.YieldFrom
    ∷ located Sort.Expr "Starred" (one expr ∷ []) tree.Starred
    ∷ located Sort.Expr "Yield" (maybe expr ∷ []) tree.Yield
    ∷ located Sort.Expr "Compare"
    (one expr ∷ many (operator Comparing) ∷ many expr ∷ []) tree.Compare
    ∷ located Sort.Expr "Call" (one expr ∷ many expr ∷ many keyword ∷ []) tree.Call
    ∷ located Sort.Expr "FormattedValue"
    (one expr ∷ one (operator Converting) ∷ maybe expr ∷ []) tree.FormattedValue
    ∷ located Sort.Expr "JoinedStr" (many expr ∷ []) tree.JoinedStr
    ∷ located Sort.Expr "Constant" (one constant ∷ []) tree.Constant
    ∷ located Sort.Expr "Attribute" (one expr ∷ one name ∷ []) tree.Attribute
    ∷ located Sort.Expr "Subscript" (one expr ∷ one expr ∷ []) tree.Subscript
    ∷ located Sort.Expr "Name" (one name ∷ []) tree.Name
    ∷ located Sort.Expr "Slice" (maybe expr ∷ maybe expr ∷ maybe expr ∷ []) tree.Slice
    ∷ plain Sort.Arguments "Arguments"
    (many arg_with_default ∷ many arg_with_default ∷ maybe arg
    ∷ many arg_with_default ∷ maybe arg ∷ []) tree.arguments
    ∷ plain Sort.ArgWithDefault "ArgWithDefault"
    (one arg ∷ maybe expr ∷ []) (λ def default. (def, default))
    ∷ located Sort.Arg "Arg" (one name ∷ maybe expr ∷ []) tree.arg
    ∷ plain Sort.Keyword "Keyword" (maybe name ∷ one expr ∷ []) (λ arg value. (arg, value))
    ∷ plain Sort.Alias "Alias"
    (one name ∷ maybe name ∷ []) (λ name asname. record { name = name; asname = asname })
    ∷ plain Sort.WithItem "WithItem"
    (one expr ∷ maybe expr ∷ []) (λ context_expr optional_vars. (context_expr, optional_vars))
    ∷ plain Sort.ExceptHandler "ExceptHandler"
    (maybe expr ∷ maybe name ∷ many stmt ∷ []) (λ type_ name body. (type_, name, body))
    ∷ plain Sort.Comprehension "Comprehension"
    (one expr ∷ one expr
    ∷ many expr ∷ one truth ∷ []) (λ target iter ifs is_async. (target, iter, ifs, is_async))
    ∷ plain Sort.MatchCase "MatchCase" (many stmt ∷ []) (λ body. body)
    ∷ located Sort.TypeParam "TypeVar" (one name ∷ maybe expr ∷ []) tree.TypeVar
    ∷ located Sort.TypeParam "ParamSpec" (one name ∷ []) tree.ParamSpec
    ∷ located Sort.TypeParam "TypeVarTuple" (one name ∷ []) tree.TypeVarTuple
    ∷ plain Sort.Constant "none" [] literal.None
    ∷ plain Sort.Constant "true" [] (literal.Bool true)
    ∷ plain Sort.Constant "false" [] (literal.Bool false)
    ∷ plain Sort.Constant "ellipsis" [] literal.Ellipsis
    ∷ plain Sort.Constant "int" (one integer ∷ []) literal.Int
    ∷ plain Sort.Constant "str" (one name ∷ []) literal.Str
    ∷ plain Sort.Constant "bytes" (one bytes ∷ []) literal.Bytes
    ∷ plain Sort.Constant "tuple" (many constant ∷ []) literal.Tuple
    ∷ []
