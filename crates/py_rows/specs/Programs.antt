-- Programs.
use Rattle.std.specs.Prelude.{ℕ, Ok}
use Rattle.serde_json.specs.Data.{Items}
use Rattle.py_tree.specs.Tree as tree
use Rattle.py_rows_fields.specs.Fields.{one, two}
use Rattle.py_rows_fields.specs.Gives.{◌>>=◌}
use Rattle.py_rows_slots.specs.Nodes.{Nodes}
use Rattle.py_rows_slots.specs.Slots.{Made, take_expr, take_exprs, take_stmts}

abbrev pub module_node : ℕ → Items → Nodes → Made tree.Mod
module_node n fields nodes = one n fields >>= λ field.
    take_stmts n field nodes >>= λ (body, nodes).
    Ok (tree.Module body, nodes)

abbrev pub interactive_node : ℕ → Items → Nodes → Made tree.Mod
interactive_node n fields nodes = one n fields >>= λ field.
    take_stmts n field nodes >>= λ (body, nodes).
    Ok (tree.Interactive body, nodes)

abbrev pub expression_node : ℕ → Items → Nodes → Made tree.Mod
expression_node n fields nodes = one n fields >>= λ field.
    take_expr n field nodes >>= λ (body, nodes).
    Ok (tree.Expression body, nodes)

abbrev pub function_type_node : ℕ → Items → Nodes → Made tree.Mod
function_type_node n fields nodes = two n fields >>= λ (argtypes, returns).
    take_exprs n argtypes nodes >>= λ (argtypes, nodes). take_expr n returns nodes >>= λ (returns, nodes).
    Ok (tree.FunctionType argtypes returns, nodes)
