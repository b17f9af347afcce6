use Rattle.std.proofs.Common.{refl}
use Rattle.py_tree.proofs.View.{tree_Attribute}
use Rattle.py_rows_exprs.proofs.atoms.attribute_node.Goals as goal

pub returns : goal.returns
returns c = rw (c.in_ok-value.ensures, c.in_ok-value-2.ensures, c.in_ok-attr.ensures, tree_Attribute) refl
