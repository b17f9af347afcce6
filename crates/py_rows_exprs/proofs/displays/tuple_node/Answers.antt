use Rattle.std.proofs.Common.{refl}
use Rattle.py_tree.proofs.View.{tree_Tuple}
use Rattle.py_rows_exprs.proofs.displays.tuple_node.Goals as goal

pub returns : goal.returns
returns c = rw (c.in_ok-elts.ensures, tree_Tuple) refl
