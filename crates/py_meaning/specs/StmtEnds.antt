-- Where the code of a statement leaves off in the source.
use Rattle.std.specs.Prelude.{ℕ, List, [], ◌++◌, Bool, true, false, nat_eq, if◌then◌else◌}
use Rattle.py_tree.specs.Tree as tree
use Rattle.py_base.specs.declared.location.SourceLocation.{SourceLocation}
use Rattle.py_emission_parts.specs.Context.{Context, is_function}
use Rattle.py_emission.specs.Texts.{stmt_text}
use Rattle.py_meaning.specs.Ends.{deletes_end, ends_of, expr_end, keyword_ends, last_of, opt_end, some_of, store_end, stores_end}
use Rattle.py_emission.specs.Predicates.{but_doc}

-- what a statement is read with: the level, whether it stands in a function, and whether annotations are postponed
pub record Setting : Type 0 where
  pub level : ℕ
  pub in_function : Bool
  pub postponed : Bool

-- of what is emitted
abbrev pub setting_of : Context → Setting
setting_of c = record { level = c.level; in_function = is_function c.typ; postponed = c.postponed }

-- within a scope of its own
abbrev pub scope_setting : (in_function : Bool) → Setting → Setting
scope_setting b c = record { level = c.level; in_function = b; postponed = c.postponed }

-- the defaults of some parameters
abbrev pub arg_default_ends : tree.Args → List SourceLocation
arg_default_ends tree.no_args = []
arg_default_ends (tree.more_args a default rest) = some_of (opt_end default) ++ arg_default_ends rest

-- the defaults of a function, positional ones first
abbrev pub default_ends : tree.Arguments → List SourceLocation
default_ends (tree.arguments posonly args vararg kwonly kwarg) = arg_default_ends posonly ++ (arg_default_ends args ++ arg_default_ends kwonly)

-- the annotation of a parameter
abbrev pub arg_end : tree.Arg → List SourceLocation
arg_end (tree.arg at name annotation) = some_of (opt_end annotation)

-- that of a parameter that may be missing
abbrev pub opt_arg_end : tree.OptArg → List SourceLocation
opt_arg_end tree.no_arg = []
opt_arg_end (tree.some_arg a) = arg_end a

-- those of some parameters
abbrev pub arg_ends : tree.Args → List SourceLocation
arg_ends tree.no_args = []
arg_ends (tree.more_args a default rest) = arg_end a ++ arg_ends rest

-- the annotations of a function, that of what it returns first; none is entered where they are postponed
abbrev pub note_ends : (postponed : Bool) → tree.Arguments → (returns : tree.OptExpr) → List SourceLocation
note_ends true params returns = []
note_ends false (tree.arguments posonly args vararg kwonly kwarg) returns =
    some_of (opt_end returns) ++ (arg_ends posonly ++ (arg_ends args ++ (arg_ends kwonly ++ (opt_arg_end vararg ++ opt_arg_end kwarg))))

-- a value and its store, where there is a value
abbrev pub declared_end : SourceLocation → (target : tree.Expr) → tree.OptExpr → SourceLocation
declared_end at target tree.no_expr = at
declared_end at target (tree.some_expr e) = store_end (expr_end e) target

-- an annotation, which is entered neither in a function nor where it is postponed
abbrev pub annotation_end : Setting → SourceLocation → tree.Expr → SourceLocation
annotation_end c p e = if c.in_function then p else if c.postponed then p else expr_end e

-- above level 0 nothing is entered
abbrev pub assert_end : (level : ℕ) → SourceLocation → (test : tree.Expr) → (msg : tree.OptExpr) → SourceLocation
assert_end l at t msg = if nat_eq l 0 then last_of (expr_end t) (some_of (opt_end msg)) else at

-- the bound of a type parameter
abbrev pub param_end : tree.TypeParam → List SourceLocation
param_end (tree.TypeVar at name bound) = some_of (opt_end bound)
param_end other = []

-- the bounds of type parameters
abbrev pub param_ends : tree.TypeParams → List SourceLocation
param_ends tree.no_type_params = []
param_ends (tree.more_type_params t ts) = param_end t ++ param_ends ts

-- where a function begins whose decorators leave off there: after its type parameters, or after its defaults where there are none
abbrev pub function_start : SourceLocation → tree.Arguments → tree.TypeParams → SourceLocation
function_start p params tree.no_type_params = last_of p (default_ends params)
function_start p params (tree.more_type_params t ts) = last_of p (param_ends (tree.more_type_params t ts))

-- where a function is made whose annotations leave off there; with type parameters defaults come last
abbrev pub function_end : SourceLocation → tree.Arguments → tree.TypeParams → SourceLocation
function_end p params tree.no_type_params = p
function_end p params (tree.more_type_params t ts) = last_of p (default_ends params)

abbrev mutual
  pub stmt_end : Setting → tree.Stmt → SourceLocation
  stmt_end c (tree.FunctionDef at name params body decorators returns generic) =
      function_end (last_of (rest_end (scope_setting true c) (function_start (last_of at (ends_of decorators)) params generic) body) (note_ends c.postponed params returns)) params generic
  stmt_end c (tree.ClassDef at name bases keywords body decorators generic) =
      last_of (last_of (rest_end (scope_setting false c) (last_of (last_of at (ends_of decorators)) (param_ends generic)) body) (ends_of bases)) (keyword_ends keywords)
  stmt_end c (tree.TypeAlias at name generic value) = expr_end value
  stmt_end c (tree.Return at value) = last_of at (some_of (opt_end value))
  stmt_end c (tree.Delete at targets) = deletes_end at targets
  stmt_end c (tree.Assign at targets value) = stores_end (expr_end value) targets
  stmt_end c (tree.AugAssign at target o value) = expr_end value
  stmt_end c (tree.AnnAssign at target annotation value simple) = annotation_end c (declared_end at target value) annotation
  stmt_end c (tree.For at target iter body orelse) = stmts_end c (stmts_end c (store_end (expr_end iter) target) body) orelse
  stmt_end c (tree.While at t body orelse) = stmts_end c (stmts_end c (expr_end t) body) orelse
  stmt_end c (tree.If at t body orelse) = stmts_end c (stmts_end c (expr_end t) body) orelse
  stmt_end c (tree.With at items body) = at
  stmt_end c (tree.Raise at exc cause) = last_of at (some_of (opt_end exc) ++ some_of (opt_end cause))
  stmt_end c (tree.Try at body excepts orelse finalbody) =
      stmts_end c (stmts_end c (handlers_end c (stmts_end c at body) excepts) orelse) finalbody
  stmt_end c (tree.Assert at t msg) = assert_end c.level at t msg
  stmt_end c (tree.StmtExpr at value) = expr_end value
  stmt_end c other = tree.stmt_location other

  -- after statements that begin there
  pub stmts_end : Setting → SourceLocation → tree.Stmts → SourceLocation
  stmts_end c p tree.no_stmts = p
  stmts_end c p (tree.more_stmts s ss) = stmts_end c (stmt_end c s) ss

  -- a docstring is not entered
  pub rest_end : Setting → SourceLocation → tree.Stmts → SourceLocation
  rest_end c p tree.no_stmts = p
  rest_end c p (tree.more_stmts s ss) = but_doc (stmt_text s) (stmts_end c p ss) (stmts_end c (stmt_end c s) ss)

  -- each after the one before
  pub handlers_end : Setting → SourceLocation → tree.Handlers → SourceLocation
  handlers_end c p tree.no_handlers = p
  handlers_end c p (tree.more_handlers type name body rest) = handlers_end c (stmts_end c (last_of p (some_of (opt_end type))) body) rest
