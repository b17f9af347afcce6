use Rattle.std.proofs.Common.{refl}
use Rattle.py_tree.proofs.View.{tree_Set}
use Rattle.py_rows_exprs.proofs.displays.set_node.Goals as goal

pub returns : goal.returns
returns c = rw (c.in_ok-elts.ensures, tree_Set) refl
