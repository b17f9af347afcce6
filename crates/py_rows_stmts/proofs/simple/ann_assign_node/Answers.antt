use Rattle.std.proofs.Common.{refl}
use Rattle.py_tree.proofs.View.{tree_AnnAssign}
use Rattle.py_rows_stmts.proofs.simple.ann_assign_node.Goals as goal

pub returns : goal.returns
returns c = rw (c.in_ok-target.ensures, c.in_ok-target-2.ensures, c.in_ok-annotation.ensures, c.in_ok-value.ensures, c.in_ok-simple.ensures, tree_AnnAssign) refl
