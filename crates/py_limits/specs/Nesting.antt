-- How deep a tree nests. A node nests one deeper than its deepest child, and a leaf 1. Each row of the rows form is a node: a constant is the child of its expression, and
-- parameters, keywords, clauses, aliases and type parameters are nodes. A `with` of several items stands for as many, one in the other.
use Rattle.std.specs.Prelude.{ℕ, ◌+◌, max, List, [], ◌∷◌}
use Rattle.py_base.specs.Literal as literal
use Rattle.py_tree.specs.Tree as tree
use Rattle.py_tree.specs.declared.statements.Alias.{Alias}

abbrev mutual
  pub literal_nesting : literal.Literal → ℕ
  literal_nesting (literal.Tuple items) = literals_nesting items + 1
  literal_nesting _ = 1

  -- that of the deepest constant, and 0 for none
  pub literals_nesting : literal.Literals → ℕ
  literals_nesting literal.no_literals = 0
  literals_nesting (literal.more_literals item items) = max (literal_nesting item) (literals_nesting items)

abbrev mutual
  pub expr_nesting : tree.Expr → ℕ
  expr_nesting (tree.BoolOp at op values) = exprs_nesting values + 1
  expr_nesting (tree.NamedExpr at target value) = max (expr_nesting target) (expr_nesting value) + 1
  expr_nesting (tree.BinOp at left op right) = max (expr_nesting left) (expr_nesting right) + 1
  expr_nesting (tree.UnaryOp at op operand) = expr_nesting operand + 1
  expr_nesting (tree.Lambda at params body) = max (arguments_nesting params) (expr_nesting body) + 1
  expr_nesting (tree.IfExp at test body orelse) = max (expr_nesting test) (max (expr_nesting body) (expr_nesting orelse)) + 1
  expr_nesting (tree.Dict at keys values) = max (opt_exprs_nesting keys) (exprs_nesting values) + 1
  expr_nesting (tree.Set at elts) = exprs_nesting elts + 1
  expr_nesting (tree.ListComp at elt clauses) = max (expr_nesting elt) (generators_nesting clauses) + 1
  expr_nesting (tree.SetComp at elt clauses) = max (expr_nesting elt) (generators_nesting clauses) + 1
  expr_nesting (tree.DictComp at key value clauses) = max (expr_nesting key) (max (expr_nesting value) (generators_nesting clauses)) + 1
  expr_nesting (tree.GeneratorExp at elt clauses) = max (expr_nesting elt) (generators_nesting clauses) + 1
  expr_nesting (tree.Await at value) = expr_nesting value + 1
  expr_nesting (tree.Yield at value) = opt_expr_nesting value + 1
  expr_nesting (tree.YieldFrom at value) = expr_nesting value + 1
  expr_nesting (tree.Compare at left ops comparators) = max (expr_nesting left) (exprs_nesting comparators) + 1
  expr_nesting (tree.Call at func args keywords) = max (expr_nesting func) (max (exprs_nesting args) (keywords_nesting keywords)) + 1
  expr_nesting (tree.FormattedValue at value conversion format_spec) = max (expr_nesting value) (opt_expr_nesting format_spec) + 1
  expr_nesting (tree.JoinedStr at values) = exprs_nesting values + 1
  expr_nesting (tree.Constant at value) = literal_nesting value + 1
  expr_nesting (tree.Attribute at value attr) = expr_nesting value + 1
  expr_nesting (tree.Subscript at value slice) = max (expr_nesting value) (expr_nesting slice) + 1
  expr_nesting (tree.Starred at value) = expr_nesting value + 1
  expr_nesting (tree.Name at id) = 1
  expr_nesting (tree.List at elts) = exprs_nesting elts + 1
  expr_nesting (tree.Tuple at elts) = exprs_nesting elts + 1
  expr_nesting (tree.Slice at lower upper step) = max (opt_expr_nesting lower) (max (opt_expr_nesting upper) (opt_expr_nesting step)) + 1

  -- that of the deepest expression, and 0 for none
  pub exprs_nesting : tree.Exprs → ℕ
  exprs_nesting tree.no_exprs = 0
  exprs_nesting (tree.more_exprs e es) = max (expr_nesting e) (exprs_nesting es)

  -- 0 where the expression is missing
  pub opt_expr_nesting : tree.OptExpr → ℕ
  opt_expr_nesting tree.no_expr = 0
  opt_expr_nesting (tree.some_expr e) = expr_nesting e

  pub opt_exprs_nesting : tree.OptExprs → ℕ
  opt_exprs_nesting tree.no_opts = 0
  opt_exprs_nesting (tree.more_opts o os) = max (opt_expr_nesting o) (opt_exprs_nesting os)

  -- that of the deepest keyword, which is a node
  pub keywords_nesting : tree.Keywords → ℕ
  keywords_nesting tree.no_keywords = 0
  keywords_nesting (tree.more_keywords name value ks) = max (expr_nesting value + 1) (keywords_nesting ks)

  -- that of the deepest clause
  pub generators_nesting : tree.Generators → ℕ
  generators_nesting tree.no_generators = 0
  generators_nesting (tree.more_generators target iter ifs is_async gs) =
      max (max (expr_nesting target) (max (expr_nesting iter) (exprs_nesting ifs)) + 1) (generators_nesting gs)

  -- a parameter
  pub arg_nesting : tree.Arg → ℕ
  arg_nesting (tree.arg at name annotation) = opt_expr_nesting annotation + 1

  pub opt_arg_nesting : tree.OptArg → ℕ
  opt_arg_nesting tree.no_arg = 0
  opt_arg_nesting (tree.some_arg a) = arg_nesting a

  -- a parameter that may have a default is a node around the parameter
  pub args_nesting : tree.Args → ℕ
  args_nesting tree.no_args = 0
  args_nesting (tree.more_args a default others) = max (max (arg_nesting a) (opt_expr_nesting default) + 1) (args_nesting others)

  pub arguments_nesting : tree.Arguments → ℕ
  arguments_nesting (tree.arguments posonlyargs args vararg kwonlyargs kwarg) =
      max (args_nesting posonlyargs) (max (args_nesting args) (max (opt_arg_nesting vararg) (max (args_nesting kwonlyargs) (opt_arg_nesting kwarg)))) + 1

abbrev pub type_param_nesting : tree.TypeParam → ℕ
type_param_nesting (tree.TypeVar at name bound) = opt_expr_nesting bound + 1
type_param_nesting (tree.ParamSpec at name) = 1
type_param_nesting (tree.TypeVarTuple at name) = 1

abbrev pub type_params_nesting : tree.TypeParams → ℕ
type_params_nesting tree.no_type_params = 0
type_params_nesting (tree.more_type_params p ps) = max (type_param_nesting p) (type_params_nesting ps)

-- an alias is a leaf
abbrev pub aliases_nesting : List Alias → ℕ
aliases_nesting [] = 0
aliases_nesting (x ∷ xs) = 1

abbrev pub with_items_nesting : tree.WithItems → ℕ
with_items_nesting tree.no_items = 0
with_items_nesting (tree.more_items context_expr optional_vars items) = max (max (expr_nesting context_expr) (opt_expr_nesting optional_vars) + 1) (with_items_nesting items)

abbrev pub item_count : tree.WithItems → ℕ
item_count tree.no_items = 0
item_count (tree.more_items context_expr optional_vars items) = item_count items + 1

-- as many levels as items, and one for none
abbrev pub with_levels : tree.WithItems → ℕ
with_levels items = max 1 (item_count items)

-- the parts of a def, but for its body
abbrev pub head_nesting : tree.Arguments → tree.Exprs → tree.OptExpr → tree.TypeParams → ℕ
head_nesting params decorators returns generic = max (arguments_nesting params) (max (exprs_nesting decorators) (max (opt_expr_nesting returns) (type_params_nesting generic)))

-- the parts of a class, but for its body
abbrev pub class_head_nesting : tree.Exprs → tree.Keywords → tree.Exprs → tree.TypeParams → ℕ
class_head_nesting bases named decorators generic = max (exprs_nesting bases) (max (keywords_nesting named) (max (exprs_nesting decorators) (type_params_nesting generic)))

abbrev mutual
  pub stmt_nesting : tree.Stmt → ℕ
  stmt_nesting (tree.FunctionDef at name params body decorators returns generic) = max (head_nesting params decorators returns generic) (stmts_nesting body) + 1
  stmt_nesting (tree.AsyncFunctionDef at name params body decorators returns generic) = max (head_nesting params decorators returns generic) (stmts_nesting body) + 1
  stmt_nesting (tree.ClassDef at name bases named body decorators generic) = max (class_head_nesting bases named decorators generic) (stmts_nesting body) + 1
  stmt_nesting (tree.Return at value) = opt_expr_nesting value + 1
  stmt_nesting (tree.Delete at targets) = exprs_nesting targets + 1
  stmt_nesting (tree.Assign at targets value) = max (exprs_nesting targets) (expr_nesting value) + 1
  stmt_nesting (tree.TypeAlias at name generic value) = max (expr_nesting name) (max (type_params_nesting generic) (expr_nesting value)) + 1
  stmt_nesting (tree.AugAssign at target op value) = max (expr_nesting target) (expr_nesting value) + 1
  stmt_nesting (tree.AnnAssign at target annotation value simple) = max (expr_nesting target) (max (expr_nesting annotation) (opt_expr_nesting value)) + 1
  stmt_nesting (tree.For at target iter body orelse) = max (expr_nesting target) (max (expr_nesting iter) (max (stmts_nesting body) (stmts_nesting orelse))) + 1
  stmt_nesting (tree.AsyncFor at target iter body orelse) = max (expr_nesting target) (max (expr_nesting iter) (max (stmts_nesting body) (stmts_nesting orelse))) + 1
  stmt_nesting (tree.While at test body orelse) = max (expr_nesting test) (max (stmts_nesting body) (stmts_nesting orelse)) + 1
  stmt_nesting (tree.If at test body orelse) = max (expr_nesting test) (max (stmts_nesting body) (stmts_nesting orelse)) + 1
  stmt_nesting (tree.With at items body) = max (with_items_nesting items) (stmts_nesting body) + with_levels items
  stmt_nesting (tree.AsyncWith at items body) = max (with_items_nesting items) (stmts_nesting body) + 1
  stmt_nesting (tree.Match at subject branches) = max (expr_nesting subject) (cases_nesting branches) + 1
  stmt_nesting (tree.Raise at exc cause) = max (opt_expr_nesting exc) (opt_expr_nesting cause) + 1
  stmt_nesting (tree.Try at body excepts orelse finalbody) = max (stmts_nesting body) (max (handlers_nesting excepts) (max (stmts_nesting orelse) (stmts_nesting finalbody))) + 1
  stmt_nesting (tree.TryStar at body excepts orelse finalbody) = max (stmts_nesting body) (max (handlers_nesting excepts) (max (stmts_nesting orelse) (stmts_nesting finalbody))) + 1
  stmt_nesting (tree.Assert at test msg) = max (expr_nesting test) (opt_expr_nesting msg) + 1
  stmt_nesting (tree.Import at names) = aliases_nesting names + 1
  stmt_nesting (tree.ImportFrom at path names level) = aliases_nesting names + 1
  stmt_nesting (tree.Global at names) = 1
  stmt_nesting (tree.Nonlocal at names) = 1
  stmt_nesting (tree.StmtExpr at value) = expr_nesting value + 1
  stmt_nesting (tree.Pass at) = 1
  stmt_nesting (tree.Break at) = 1
  stmt_nesting (tree.Continue at) = 1

  -- that of the deepest statement, and 0 for none
  pub stmts_nesting : tree.Stmts → ℕ
  stmts_nesting tree.no_stmts = 0
  stmts_nesting (tree.more_stmts s ss) = max (stmt_nesting s) (stmts_nesting ss)

  -- that of the deepest handler
  pub handlers_nesting : tree.Handlers → ℕ
  handlers_nesting tree.no_handlers = 0
  handlers_nesting (tree.more_handlers type_ name body hs) = max (max (opt_expr_nesting type_) (stmts_nesting body) + 1) (handlers_nesting hs)

  -- that of the deepest case
  pub cases_nesting : tree.Cases → ℕ
  cases_nesting tree.no_cases = 0
  cases_nesting (tree.more_cases body cs) = max (stmts_nesting body + 1) (cases_nesting cs)

abbrev pub nesting : tree.Mod → ℕ
nesting (tree.Module body) = stmts_nesting body + 1
nesting (tree.Interactive body) = stmts_nesting body + 1
nesting (tree.Expression body) = expr_nesting body + 1
nesting (tree.FunctionType argtypes returns) = max (exprs_nesting argtypes) (expr_nesting returns) + 1
