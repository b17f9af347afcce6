-- Displays and comprehensions.
use Rattle.std.specs.Prelude.{ℕ, Ok}
use Rattle.serde_json.specs.Data.{Items}
use Rattle.py_base.specs.declared.location.SourceLocation.{SourceLocation}
use Rattle.py_tree.specs.Tree as tree
use Rattle.py_rows_fields.specs.Fields.{one, three, two}
use Rattle.py_rows_fields.specs.Gives.{◌>>=◌}
use Rattle.py_rows_slots.specs.Nodes.{Nodes}
use Rattle.py_rows_slots.specs.Slots.{Made, take_comprehensions, take_expr, take_exprs, take_optional_exprs}

abbrev pub dict_node : ℕ → SourceLocation → Items → Nodes → Made tree.Expr
dict_node n at fields nodes = two n fields >>= λ (keys, values).
    take_optional_exprs n keys nodes >>= λ (keys, nodes). take_exprs n values nodes >>= λ (values, nodes).
    Ok (tree.Dict at keys values, nodes)

abbrev pub elements : ℕ → Items → Nodes → Made tree.Exprs
elements n fields nodes = one n fields >>= λ field.
    take_exprs n field nodes >>= λ (elts, nodes).
    Ok (elts, nodes)

abbrev pub set_node : ℕ → SourceLocation → Items → Nodes → Made tree.Expr
set_node n at fields nodes = elements n fields nodes >>= λ (elts, nodes). Ok (tree.Set at elts, nodes)

abbrev pub list_node : ℕ → SourceLocation → Items → Nodes → Made tree.Expr
list_node n at fields nodes = elements n fields nodes >>= λ (elts, nodes). Ok (tree.List at elts, nodes)

abbrev pub tuple_node : ℕ → SourceLocation → Items → Nodes → Made tree.Expr
tuple_node n at fields nodes = elements n fields nodes >>= λ (elts, nodes). Ok (tree.Tuple at elts, nodes)

abbrev pub element_and_clauses : ℕ → Items → Nodes → Made (tree.Expr × tree.Generators)
element_and_clauses n fields nodes = two n fields >>= λ (elt, generators).
    take_expr n elt nodes >>= λ (elt, nodes). take_comprehensions n generators nodes >>= λ (generators, nodes).
    Ok ((elt, generators), nodes)

abbrev pub list_comp_node : ℕ → SourceLocation → Items → Nodes → Made tree.Expr
list_comp_node n at fields nodes = element_and_clauses n fields nodes >>= λ ((elt, generators), nodes). Ok (tree.ListComp at elt generators, nodes)

abbrev pub set_comp_node : ℕ → SourceLocation → Items → Nodes → Made tree.Expr
set_comp_node n at fields nodes = element_and_clauses n fields nodes >>= λ ((elt, generators), nodes). Ok (tree.SetComp at elt generators, nodes)

abbrev pub generator_exp_node : ℕ → SourceLocation → Items → Nodes → Made tree.Expr
generator_exp_node n at fields nodes = element_and_clauses n fields nodes >>= λ ((elt, generators), nodes). Ok (tree.GeneratorExp at elt generators, nodes)

abbrev pub dict_comp_node : ℕ → SourceLocation → Items → Nodes → Made tree.Expr
dict_comp_node n at fields nodes = three n fields >>= λ (key, value, generators).
    take_expr n key nodes >>= λ (key, nodes). take_expr n value nodes >>= λ (value, nodes). take_comprehensions n generators nodes >>= λ (generators, nodes).
    Ok (tree.DictComp at key value generators, nodes)
