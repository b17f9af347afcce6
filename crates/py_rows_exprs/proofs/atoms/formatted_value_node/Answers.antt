use Rattle.std.proofs.Common.{refl}
use Rattle.py_tree.proofs.View.{tree_FormattedValue}
use Rattle.py_rows_exprs.proofs.atoms.formatted_value_node.Goals as goal

pub returns : goal.returns
returns c = rw (c.in_ok-value.ensures, c.in_ok-value-2.ensures, c.in_ok-conversion.ensures, c.in_ok-format_spec.ensures, tree_FormattedValue) refl
