use Rattle.std.proofs.Common.{refl}
use Rattle.py_tree.proofs.View.{tree_Name}
use Rattle.py_rows_exprs.proofs.atoms.name_node.Goals as goal

pub returns : goal.returns
returns c = rw (c.in_ok-field.ensures, c.in_ok-id.ensures, tree_Name) refl
