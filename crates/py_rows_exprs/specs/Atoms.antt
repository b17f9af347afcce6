-- Names, constants, parts of values and f-strings.
use Rattle.std.specs.Prelude.{ℕ, Ok, Result}
use Rattle.serde_json.specs.Data.{Items}
use Rattle.py_base.specs.declared.location.SourceLocation.{SourceLocation}
use Rattle.py_tree.specs.Tree as tree
use Rattle.py_rows_fields.specs.declared.error.RowsError.{RowsError}
use Rattle.py_rows_fields.specs.Fields.{one, text_at, three, two}
use Rattle.py_rows_fields.specs.Operators.{conversion_at}
use Rattle.py_rows_fields.specs.Gives.{◌>>=◌}
use Rattle.py_rows_slots.specs.Nodes.{Nodes}
use Rattle.py_rows_slots.specs.Slots.{Made, take_constant, take_expr, take_exprs, take_optional_expr}

abbrev pub constant_expr_node : ℕ → SourceLocation → Items → Nodes → Made tree.Expr
constant_expr_node n at fields nodes = one n fields >>= λ field.
    take_constant n field nodes >>= λ (value, nodes).
    Ok (tree.Constant at value, nodes)

abbrev pub attribute_node : ℕ → SourceLocation → Items → Nodes → Made tree.Expr
attribute_node n at fields nodes = two n fields >>= λ (value, attr).
    take_expr n value nodes >>= λ (value, nodes). text_at n attr >>= λ attr.
    Ok (tree.Attribute at value attr, nodes)

abbrev pub subscript_node : ℕ → SourceLocation → Items → Nodes → Made tree.Expr
subscript_node n at fields nodes = two n fields >>= λ (value, slice).
    take_expr n value nodes >>= λ (value, nodes). take_expr n slice nodes >>= λ (slice, nodes).
    Ok (tree.Subscript at value slice, nodes)

abbrev pub name_node : ℕ → SourceLocation → Items → Result tree.Expr RowsError
name_node n at fields = one n fields >>= λ field.
    text_at n field >>= λ id.
    Ok (tree.Name at id)

abbrev pub slice_node : ℕ → SourceLocation → Items → Nodes → Made tree.Expr
slice_node n at fields nodes = three n fields >>= λ (lower, upper, step).
    take_optional_expr n lower nodes >>= λ (lower, nodes). take_optional_expr n upper nodes >>= λ (upper, nodes). take_optional_expr n step nodes >>= λ (step, nodes).
    Ok (tree.Slice at lower upper step, nodes)

abbrev pub formatted_value_node : ℕ → SourceLocation → Items → Nodes → Made tree.Expr
formatted_value_node n at fields nodes = three n fields >>= λ (value, conversion_field, format_spec).
    take_expr n value nodes >>= λ (value, nodes). conversion_at n conversion_field >>= λ conversion. take_optional_expr n format_spec nodes >>= λ (format_spec, nodes).
    Ok (tree.FormattedValue at value conversion format_spec, nodes)

abbrev pub joined_str_node : ℕ → SourceLocation → Items → Nodes → Made tree.Expr
joined_str_node n at fields nodes = one n fields >>= λ field.
    take_exprs n field nodes >>= λ (values, nodes).
    Ok (tree.JoinedStr at values, nodes)
