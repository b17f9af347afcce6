use Rattle.std.proofs.Common.{refl}
use Rattle.py_tree.proofs.View.{tree_Subscript}
use Rattle.py_rows_exprs.proofs.atoms.subscript_node.Goals as goal

pub returns : goal.returns
returns c = rw (c.in_ok-value.ensures, c.in_ok-value-2.ensures, c.in_ok-slice.ensures, tree_Subscript) refl
