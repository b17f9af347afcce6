use Rattle.std.proofs.Common.{refl}
use Rattle.py_tree.proofs.View.{tree_List}
use Rattle.py_rows_exprs.proofs.displays.list_node.Goals as goal

pub returns : goal.returns
returns c = rw (c.in_ok-elts.ensures, tree_List) refl
