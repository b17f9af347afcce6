-- How large a tree is: one for each row of its rows form, that is for each node and each constant, one for each identifier, one for each
-- dot in the path of an import, one for each operator of a comparison, and one for each key that a dict lacks.
use Rattle.std.specs.Prelude.{ℕ, ◌+◌, List, [], ◌∷◌, length, Option, None, Some, nat_eq, count_by}
use Rattle.py_base.specs.Literal as literal
use Rattle.py_tree.specs.Tree as tree
use Rattle.py_tree.specs.declared.statements.Alias.{Alias}

abbrev mutual
  pub literal_size : literal.Literal → ℕ
  literal_size (literal.Tuple items) = literals_size items + 1
  literal_size _ = 1

  pub literals_size : literal.Literals → ℕ
  literals_size literal.no_literals = 0
  literals_size (literal.more_literals item items) = literal_size item + literals_size items

-- an identifier that may be missing
abbrev pub opt_name_size : Option (List ℕ) → ℕ
opt_name_size None = 0
opt_name_size (Some id) = 1

abbrev mutual
  pub expr_size : tree.Expr → ℕ
  expr_size (tree.BoolOp at op values) = exprs_size values + 1
  expr_size (tree.NamedExpr at target value) = expr_size target + expr_size value + 1
  expr_size (tree.BinOp at left op right) = expr_size left + expr_size right + 1
  expr_size (tree.UnaryOp at op operand) = expr_size operand + 1
  expr_size (tree.Lambda at params body) = arguments_size params + expr_size body + 1
  expr_size (tree.IfExp at test body orelse) = expr_size test + expr_size body + expr_size orelse + 1
  expr_size (tree.Dict at keys values) = keys_size keys + exprs_size values + 1
  expr_size (tree.Set at elts) = exprs_size elts + 1
  expr_size (tree.ListComp at elt clauses) = expr_size elt + generators_size clauses + 1
  expr_size (tree.SetComp at elt clauses) = expr_size elt + generators_size clauses + 1
  expr_size (tree.DictComp at key value clauses) = expr_size key + expr_size value + generators_size clauses + 1
  expr_size (tree.GeneratorExp at elt clauses) = expr_size elt + generators_size clauses + 1
  expr_size (tree.Await at value) = expr_size value + 1
  expr_size (tree.Yield at value) = opt_expr_size value + 1
  expr_size (tree.YieldFrom at value) = expr_size value + 1
  expr_size (tree.Compare at left ops comparators) = expr_size left + length ops + exprs_size comparators + 1
  expr_size (tree.Call at func args keywords) = expr_size func + exprs_size args + keywords_size keywords + 1
  expr_size (tree.FormattedValue at value conversion format_spec) = expr_size value + opt_expr_size format_spec + 1
  expr_size (tree.JoinedStr at values) = exprs_size values + 1
  expr_size (tree.Constant at value) = literal_size value + 1
  expr_size (tree.Attribute at value attr) = expr_size value + 2
  expr_size (tree.Subscript at value slice) = expr_size value + expr_size slice + 1
  expr_size (tree.Starred at value) = expr_size value + 1
  expr_size (tree.Name at id) = 2
  expr_size (tree.List at elts) = exprs_size elts + 1
  expr_size (tree.Tuple at elts) = exprs_size elts + 1
  expr_size (tree.Slice at lower upper step) = opt_expr_size lower + opt_expr_size upper + opt_expr_size step + 1

  pub exprs_size : tree.Exprs → ℕ
  exprs_size tree.no_exprs = 0
  exprs_size (tree.more_exprs e es) = expr_size e + exprs_size es

  pub opt_expr_size : tree.OptExpr → ℕ
  opt_expr_size tree.no_expr = 0
  opt_expr_size (tree.some_expr e) = expr_size e

  -- a key that is missing counts one
  pub key_size : tree.OptExpr → ℕ
  key_size tree.no_expr = 1
  key_size (tree.some_expr e) = expr_size e

  pub keys_size : tree.OptExprs → ℕ
  keys_size tree.no_opts = 0
  keys_size (tree.more_opts o os) = key_size o + keys_size os

  pub keywords_size : tree.Keywords → ℕ
  keywords_size tree.no_keywords = 0
  keywords_size (tree.more_keywords name value ks) = opt_name_size name + expr_size value + 1 + keywords_size ks

  pub generators_size : tree.Generators → ℕ
  generators_size tree.no_generators = 0
  generators_size (tree.more_generators target iter ifs is_async gs) = expr_size target + expr_size iter + exprs_size ifs + 1 + generators_size gs

  -- a parameter has a name
  pub arg_size : tree.Arg → ℕ
  arg_size (tree.arg at name annotation) = opt_expr_size annotation + 2

  pub opt_arg_size : tree.OptArg → ℕ
  opt_arg_size tree.no_arg = 0
  opt_arg_size (tree.some_arg a) = arg_size a

  pub args_size : tree.Args → ℕ
  args_size tree.no_args = 0
  args_size (tree.more_args a default others) = arg_size a + opt_expr_size default + 1 + args_size others

  pub arguments_size : tree.Arguments → ℕ
  arguments_size (tree.arguments posonlyargs args vararg kwonlyargs kwarg) = args_size posonlyargs + args_size args + opt_arg_size vararg + args_size kwonlyargs + opt_arg_size kwarg + 1

abbrev pub type_param_size : tree.TypeParam → ℕ
type_param_size (tree.TypeVar at name bound) = opt_expr_size bound + 2
type_param_size (tree.ParamSpec at name) = 2
type_param_size (tree.TypeVarTuple at name) = 2

abbrev pub type_params_size : tree.TypeParams → ℕ
type_params_size tree.no_type_params = 0
type_params_size (tree.more_type_params p ps) = type_param_size p + type_params_size ps

abbrev pub with_items_size : tree.WithItems → ℕ
with_items_size tree.no_items = 0
with_items_size (tree.more_items context_expr optional_vars items) = expr_size context_expr + opt_expr_size optional_vars + 1 + with_items_size items

-- how many dots a path has
abbrev pub dots : List ℕ → ℕ
dots path = count_by (λ b. nat_eq b 46) path

abbrev pub path_size : Option (List ℕ) → ℕ
path_size None = 0
path_size (Some path) = dots path + 1

-- names that are taken from a module
abbrev pub aliases_size : List Alias → ℕ
aliases_size [] = 0
aliases_size (x ∷ xs) = opt_name_size x.asname + 2 + aliases_size xs

-- modules that are imported by their paths
abbrev pub paths_size : List Alias → ℕ
paths_size [] = 0
paths_size (x ∷ xs) = dots x.name + opt_name_size x.asname + 2 + paths_size xs

-- a def without its body
abbrev pub head_size : tree.Arguments → tree.Exprs → tree.OptExpr → tree.TypeParams → ℕ
head_size params decorators returns generic = arguments_size params + exprs_size decorators + opt_expr_size returns + type_params_size generic + 2

-- a class without its body
abbrev pub class_head_size : tree.Exprs → tree.Keywords → tree.Exprs → tree.TypeParams → ℕ
class_head_size bases named decorators generic = exprs_size bases + keywords_size named + exprs_size decorators + type_params_size generic + 2

abbrev mutual
  pub stmt_size : tree.Stmt → ℕ
  stmt_size (tree.FunctionDef at name params body decorators returns generic) = head_size params decorators returns generic + stmts_size body
  stmt_size (tree.AsyncFunctionDef at name params body decorators returns generic) = head_size params decorators returns generic + stmts_size body
  stmt_size (tree.ClassDef at name bases named body decorators generic) = class_head_size bases named decorators generic + stmts_size body
  stmt_size (tree.Return at value) = opt_expr_size value + 1
  stmt_size (tree.Delete at targets) = exprs_size targets + 1
  stmt_size (tree.Assign at targets value) = exprs_size targets + expr_size value + 1
  stmt_size (tree.TypeAlias at name generic value) = expr_size name + type_params_size generic + expr_size value + 1
  stmt_size (tree.AugAssign at target op value) = expr_size target + expr_size value + 1
  stmt_size (tree.AnnAssign at target annotation value simple) = expr_size target + expr_size annotation + opt_expr_size value + 1
  stmt_size (tree.For at target iter body orelse) = expr_size target + expr_size iter + stmts_size body + stmts_size orelse + 1
  stmt_size (tree.AsyncFor at target iter body orelse) = expr_size target + expr_size iter + stmts_size body + stmts_size orelse + 1
  stmt_size (tree.While at test body orelse) = expr_size test + stmts_size body + stmts_size orelse + 1
  stmt_size (tree.If at test body orelse) = expr_size test + stmts_size body + stmts_size orelse + 1
  stmt_size (tree.With at items body) = with_items_size items + stmts_size body + 1
  stmt_size (tree.AsyncWith at items body) = with_items_size items + stmts_size body + 1
  stmt_size (tree.Match at subject branches) = expr_size subject + cases_size branches + 1
  stmt_size (tree.Raise at exc cause) = opt_expr_size exc + opt_expr_size cause + 1
  stmt_size (tree.Try at body excepts orelse finalbody) = stmts_size body + handlers_size excepts + stmts_size orelse + stmts_size finalbody + 1
  stmt_size (tree.TryStar at body excepts orelse finalbody) = stmts_size body + handlers_size excepts + stmts_size orelse + stmts_size finalbody + 1
  stmt_size (tree.Assert at test msg) = expr_size test + opt_expr_size msg + 1
  stmt_size (tree.Import at names) = paths_size names + 1
  stmt_size (tree.ImportFrom at path names level) = path_size path + aliases_size names + 1
  stmt_size (tree.Global at names) = length names + 1
  stmt_size (tree.Nonlocal at names) = length names + 1
  stmt_size (tree.StmtExpr at value) = expr_size value + 1
  stmt_size (tree.Pass at) = 1
  stmt_size (tree.Break at) = 1
  stmt_size (tree.Continue at) = 1

  pub stmts_size : tree.Stmts → ℕ
  stmts_size tree.no_stmts = 0
  stmts_size (tree.more_stmts s ss) = stmt_size s + stmts_size ss

  pub handlers_size : tree.Handlers → ℕ
  handlers_size tree.no_handlers = 0
  handlers_size (tree.more_handlers type_ name body hs) = opt_expr_size type_ + opt_name_size name + stmts_size body + 1 + handlers_size hs

  pub cases_size : tree.Cases → ℕ
  cases_size tree.no_cases = 0
  cases_size (tree.more_cases body cs) = stmts_size body + 1 + cases_size cs

abbrev pub size_of : tree.Mod → ℕ
size_of (tree.Module body) = stmts_size body + 1
size_of (tree.Interactive body) = stmts_size body + 1
size_of (tree.Expression body) = expr_size body + 1
size_of (tree.FunctionType argtypes returns) = exprs_size argtypes + expr_size returns + 1
