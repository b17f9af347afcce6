-- Programs, of the fields of their kinds.
use Rattle.std.specs.Prelude.{ℕ}
use Rattle.serde_json.specs.Data.{Items}
use Rattle.py_tree.specs.Tree as tree
use Rattle.py_rows_fields.specs.declared.kinds.ModKind.{ModKind}
use Rattle.py_rows_fields.specs.declared.kinds.ModKind.TheVariants as kind
use Rattle.py_rows_slots.specs.Nodes.{Nodes}
use Rattle.py_rows_slots.specs.Slots.{Made}
use Rattle.py_rows.specs.Programs.{expression_node, function_type_node, interactive_node, module_node}

abbrev pub mod_node : ℕ → ModKind → Items → Nodes → Made tree.Mod
mod_node n kind.Module fields nodes = module_node n fields nodes
mod_node n kind.Interactive fields nodes = interactive_node n fields nodes
mod_node n kind.Expression fields nodes = expression_node n fields nodes
mod_node n kind.FunctionType fields nodes = function_type_node n fields nodes
