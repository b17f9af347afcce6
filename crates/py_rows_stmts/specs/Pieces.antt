-- What stands in statements, and is none: aliases, items of a `with`, handlers, cases and type parameters.
use Rattle.std.specs.Prelude.{ℕ, Ok, Result}
use Rattle.serde_json.specs.Data.{Items}
use Rattle.py_base.specs.declared.location.SourceLocation.{SourceLocation}
use Rattle.py_tree.specs.declared.statements.Alias.{Alias}
use Rattle.py_tree.specs.Tree as tree
use Rattle.py_rows_fields.specs.declared.error.RowsError.{RowsError}
use Rattle.py_rows_fields.specs.Fields.{one, optional_text_at, text_at, three, two}
use Rattle.py_rows_fields.specs.Gives.{◌>>=◌}
use Rattle.py_rows_slots.specs.Lists as lists
use Rattle.py_rows_slots.specs.Nodes.{Nodes}
use Rattle.py_rows_slots.specs.Slots.{Made, take_expr, take_optional_expr, take_stmts}

abbrev pub alias_node : ℕ → Items → Result Alias RowsError
alias_node n fields = two n fields >>= λ (name, asname).
    text_at n name >>= λ name. optional_text_at n asname >>= λ asname.
    Ok (record { name = name; asname = asname })

abbrev pub item_node : ℕ → Items → Nodes → Made lists.Item
item_node n fields nodes = two n fields >>= λ (context_expr, optional_vars).
    take_expr n context_expr nodes >>= λ (context_expr, nodes). take_optional_expr n optional_vars nodes >>= λ (optional_vars, nodes).
    Ok ((context_expr, optional_vars), nodes)

abbrev pub handler_node : ℕ → Items → Nodes → Made lists.Handler
handler_node n fields nodes = three n fields >>= λ (type_, name, body).
    take_optional_expr n type_ nodes >>= λ (type_, nodes). optional_text_at n name >>= λ name. take_stmts n body nodes >>= λ (body, nodes).
    Ok ((type_, name, body), nodes)

abbrev pub case_node : ℕ → Items → Nodes → Made tree.Stmts
case_node n fields nodes = one n fields >>= λ field.
    take_stmts n field nodes >>= λ (body, nodes).
    Ok (body, nodes)

abbrev pub type_var_node : ℕ → SourceLocation → Items → Nodes → Made tree.TypeParam
type_var_node n at fields nodes = two n fields >>= λ (name, bound).
    text_at n name >>= λ name. take_optional_expr n bound nodes >>= λ (bound, nodes).
    Ok (tree.TypeVar at name bound, nodes)

abbrev pub param_spec_node : ℕ → SourceLocation → Items → Result tree.TypeParam RowsError
param_spec_node n at fields = one n fields >>= λ field.
    text_at n field >>= λ name.
    Ok (tree.ParamSpec at name)

abbrev pub type_var_tuple_node : ℕ → SourceLocation → Items → Result tree.TypeParam RowsError
type_var_tuple_node n at fields = one n fields >>= λ field.
    text_at n field >>= λ name.
    Ok (tree.TypeVarTuple at name)
