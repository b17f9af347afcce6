-- The node that a row makes, among those of its sort.
use Rattle.std.specs.Prelude.{ℕ}
use Rattle.serde_json.specs.Data.{Items}
use Rattle.py_rows_fields.specs.declared.kinds.Kind.{Kind}
use Rattle.py_rows_fields.specs.declared.kinds.ModKind.{ModKind}
use Rattle.py_rows_fields.specs.declared.kinds.Kind.TheVariants as kind
use Rattle.py_rows_fields.specs.Gives.{◌>>=◌}
use Rattle.py_rows_slots.specs.Nodes.{Nodes}
use Rattle.py_rows_slots.specs.Slots.{Made, set_program}
use Rattle.py_rows_exprs.specs.Making.{make_arg, make_arguments, make_comprehension, make_constant, make_default, make_expr, make_keyword}
use Rattle.py_rows_stmts.specs.Making.{make_alias, make_case, make_handler, make_item, make_stmt, make_type_param}
use Rattle.py_rows.specs.Mods.{mod_node}

abbrev pub make_program : ℕ → ModKind → Items → Nodes → Made ℕ
make_program n k fields nodes = mod_node n k fields nodes >>= λ (node, nodes). set_program node nodes

abbrev pub make : ℕ → Kind → Items → Nodes → Made ℕ
make n (kind.Mod k) fields nodes = make_program n k fields nodes
make n (kind.Stmt k) fields nodes = make_stmt n k fields nodes
make n (kind.Expr k) fields nodes = make_expr n k fields nodes
make n (kind.Constant k) fields nodes = make_constant n k fields nodes
make n (kind.TypeParam k) fields nodes = make_type_param n k fields nodes
make n kind.Arguments fields nodes = make_arguments n fields nodes
make n kind.ArgWithDefault fields nodes = make_default n fields nodes
make n kind.Arg fields nodes = make_arg n fields nodes
make n kind.Keyword fields nodes = make_keyword n fields nodes
make n kind.Alias fields nodes = make_alias n fields nodes
make n kind.WithItem fields nodes = make_item n fields nodes
make n kind.ExceptHandler fields nodes = make_handler n fields nodes
make n kind.Comprehension fields nodes = make_comprehension n fields nodes
make n kind.MatchCase fields nodes = make_case n fields nodes
