-- What the rows made, until a later row takes it.
use Rattle.std.specs.Prelude.{ℕ, Bool, true, List, [], map, Option, None, option_map}
use Rattle.py_base.specs.Literal.{Literal}
use Rattle.py_tree.specs.Tree as tree
use Rattle.py_tree.specs.View.{arg, arguments, expr_tree, literal_of, mod_tree, stmt_tree, type_param_tree}
use Rattle.py_tree.specs.declared.statements.Alias.{Alias}
use Rattle.py_rows_fields.specs.declared.kinds.Sort.{Sort}
use Rattle.py_rows_fields.specs.declared.kinds.Sort.TheVariants as sort
use Rattle.py_rows_fields.specs.declared.outline.Row.{Row}
use Rattle.py_rows_slots.specs.declared.nodes.Nodes as kept
use Rattle.py_rows_slots.specs.Lists.{Clause, Default, Handler, Item, Keyword, case_view, comprehension_view, default_view, handler_view, item_view, keyword_view}
use Rattle.py_rows_slots.specs.Taking.{is_left_at}

-- the rows, the program that the last of them made that is one, and the other nodes, each sort in its order
pub record Nodes : Type 0 where
  pub rows : List Row
  pub program : Option tree.Mod
  pub stmts : List (Option tree.Stmt)
  pub exprs : List (Option tree.Expr)
  pub constants : List (Option Literal)
  pub type_params : List (Option tree.TypeParam)
  pub arguments : List (Option tree.Arguments)
  pub defaults : List (Option Default)
  pub args : List (Option tree.Arg)
  pub keywords : List (Option Keyword)
  pub aliases : List (Option Alias)
  pub items : List (Option Item)
  pub handlers : List (Option Handler)
  pub comprehensions : List (Option Clause)
  pub cases : List (Option tree.Stmts)

abbrev pub nodes_view : kept.Nodes → Nodes
nodes_view nodes = record {
  rows = nodes.rows.items;
  program = option_map mod_tree nodes.program;
  stmts = map (option_map stmt_tree) nodes.stmts.items;
  exprs = map (option_map expr_tree) nodes.exprs.items;
  constants = map (option_map literal_of) nodes.constants.items;
  type_params = map (option_map type_param_tree) nodes.type_params.items;
  arguments = map (option_map (arguments expr_tree)) nodes.arguments.items;
  defaults = map (option_map default_view) nodes.defaults.items;
  args = map (option_map (arg expr_tree)) nodes.args.items;
  keywords = map (option_map keyword_view) nodes.keywords.items;
  aliases = map (option_map (λ a. a)) nodes.aliases.items;
  items = map (option_map item_view) nodes.items.items;
  handlers = map (option_map handler_view) nodes.handlers.items;
  comprehensions = map (option_map comprehension_view) nodes.comprehensions.items;
  cases = map (option_map case_view) nodes.cases.items;
}

abbrev pub no_nodes : Nodes
no_nodes = record {
  rows = [];
  program = None;
  stmts = [];
  exprs = [];
  constants = [];
  type_params = [];
  arguments = [];
  defaults = [];
  args = [];
  keywords = [];
  aliases = [];
  items = [];
  handlers = [];
  comprehensions = [];
  cases = [];
}

-- whether no row has named a row; none may name a program
abbrev pub is_left : Sort → ℕ → Nodes → Bool
is_left sort.Mod k nodes = true
is_left sort.Stmt k nodes = is_left_at k nodes.stmts
is_left sort.Expr k nodes = is_left_at k nodes.exprs
is_left sort.Constant k nodes = is_left_at k nodes.constants
is_left sort.TypeParam k nodes = is_left_at k nodes.type_params
is_left sort.Arguments k nodes = is_left_at k nodes.arguments
is_left sort.ArgWithDefault k nodes = is_left_at k nodes.defaults
is_left sort.Arg k nodes = is_left_at k nodes.args
is_left sort.Keyword k nodes = is_left_at k nodes.keywords
is_left sort.Alias k nodes = is_left_at k nodes.aliases
is_left sort.WithItem k nodes = is_left_at k nodes.items
is_left sort.ExceptHandler k nodes = is_left_at k nodes.handlers
is_left sort.Comprehension k nodes = is_left_at k nodes.comprehensions
is_left sort.MatchCase k nodes = is_left_at k nodes.cases
