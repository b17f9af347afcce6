use Rattle.std.proofs.Common.{refl}
use Rattle.py_tree.proofs.View.{tree_ListComp}
use Rattle.py_rows_exprs.proofs.displays.list_comp_node.Goals as goal

pub returns : goal.returns
returns c = rw (c.in_ok-elt.ensures, tree_ListComp) refl
