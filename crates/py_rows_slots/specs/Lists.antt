-- Nodes that stand in a list of their parent, and such lists as the tree has them.
use Rattle.std.specs.Prelude.{ℕ, Bool, List, [], ◌∷◌, Option, Some, None}
use Rattle.py_tree.specs.Tree as tree
use Rattle.py_tree.specs.View.{arg, expr_tree, exprs, opt_box, opt_expr, stmt_tree, stmts}
use Rattle.py_tree.specs.declared.expressions.Expr.{Expr}
use Rattle.py_tree.specs.declared.expressions.ArgWithDefaultOf.{ArgWithDefaultOf}
use Rattle.py_tree.specs.declared.expressions.ComprehensionOf.{ComprehensionOf}
use Rattle.py_tree.specs.declared.expressions.KeywordOf.{KeywordOf}
use Rattle.py_tree.specs.declared.statements.ExceptHandlerOf.{ExceptHandlerOf}
use Rattle.py_tree.specs.declared.statements.MatchCaseOf.{MatchCaseOf}
use Rattle.py_tree.specs.declared.statements.Stmt.{Stmt}
use Rattle.py_tree.specs.declared.statements.WithItemOf.{WithItemOf}

-- a parameter, and its default
abbrev pub Default : Type 0
Default = tree.Arg × tree.OptExpr

-- a name, and a value
abbrev pub Keyword : Type 0
Keyword = Option (List ℕ) × tree.Expr

-- what a `with` enters, and its target
abbrev pub Item : Type 0
Item = tree.Expr × tree.OptExpr

-- the type that is caught, the name that it gets, and the body
abbrev pub Handler : Type 0
Handler = tree.OptExpr × Option (List ℕ) × tree.Stmts

-- the target, what is gone through, the conditions, and whether it is asynchronous
abbrev pub Clause : Type 0
Clause = tree.Expr × tree.Expr × tree.Exprs × Bool

abbrev pub default_view : ArgWithDefaultOf Expr → Default
default_view d = (arg expr_tree d.def, opt_box expr_tree d.default)

abbrev pub keyword_view : KeywordOf Expr → Keyword
keyword_view k = (k.arg, expr_tree k.value)

abbrev pub item_view : WithItemOf Expr → Item
item_view w = (expr_tree w.context_expr.value, opt_box expr_tree w.optional_vars)

abbrev pub handler_view : ExceptHandlerOf Stmt → Handler
handler_view h = (opt_box expr_tree h.type_, h.name, stmts stmt_tree h.body)

abbrev pub comprehension_view : ComprehensionOf Expr → Clause
comprehension_view c = (expr_tree c.target.value, expr_tree c.iter.value, exprs expr_tree c.ifs, c.is_async)

abbrev pub case_view : MatchCaseOf Stmt → tree.Stmts
case_view m = stmts stmt_tree m.body

-- ---- lists of the tree

abbrev pub exprs_of : List tree.Expr → tree.Exprs
exprs_of [] = tree.no_exprs
exprs_of (x ∷ xs) = tree.more_exprs x (exprs_of xs)

abbrev pub opt_of : Option tree.Expr → tree.OptExpr
opt_of = opt_expr (λ e. e)

abbrev pub opts_of : List (Option tree.Expr) → tree.OptExprs
opts_of [] = tree.no_opts
opts_of (x ∷ xs) = tree.more_opts (opt_of x) (opts_of xs)

abbrev pub stmts_of : List tree.Stmt → tree.Stmts
stmts_of [] = tree.no_stmts
stmts_of (x ∷ xs) = tree.more_stmts x (stmts_of xs)

abbrev pub type_params_of : List tree.TypeParam → tree.TypeParams
type_params_of [] = tree.no_type_params
type_params_of (x ∷ xs) = tree.more_type_params x (type_params_of xs)

abbrev pub args_of : List Default → tree.Args
args_of [] = tree.no_args
args_of (x ∷ xs) = tree.more_args x.0 x.1 (args_of xs)

abbrev pub keywords_of : List Keyword → tree.Keywords
keywords_of [] = tree.no_keywords
keywords_of (x ∷ xs) = tree.more_keywords x.0 x.1 (keywords_of xs)

abbrev pub items_of : List Item → tree.WithItems
items_of [] = tree.no_items
items_of (x ∷ xs) = tree.more_items x.0 x.1 (items_of xs)

abbrev pub handlers_of : List Handler → tree.Handlers
handlers_of [] = tree.no_handlers
handlers_of (x ∷ xs) = tree.more_handlers x.0 x.1 x.2 (handlers_of xs)

abbrev pub generators_of : List Clause → tree.Generators
generators_of [] = tree.no_generators
generators_of (x ∷ xs) = tree.more_generators x.0 x.1 x.2 x.3 (generators_of xs)

abbrev pub cases_of : List tree.Stmts → tree.Cases
cases_of [] = tree.no_cases
cases_of (x ∷ xs) = tree.more_cases x (cases_of xs)

abbrev pub opt_arg_of : Option tree.Arg → tree.OptArg
opt_arg_of None = tree.no_arg
opt_arg_of (Some x) = tree.some_arg x
