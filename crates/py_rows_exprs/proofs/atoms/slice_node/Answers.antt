use Rattle.std.proofs.Common.{refl}
use Rattle.py_tree.proofs.View.{tree_Slice}
use Rattle.py_rows_exprs.proofs.atoms.slice_node.Goals as goal

pub returns : goal.returns
returns c = rw (c.in_ok-lower.ensures, c.in_ok-lower-2.ensures, c.in_ok-upper.ensures, c.in_ok-step.ensures, tree_Slice) refl
