use Rattle.std.proofs.Common.{refl}
use Rattle.py_tree.proofs.View.{tree_AugAssign}
use Rattle.py_rows_stmts.proofs.simple.aug_assign_node.Goals as goal

pub returns : goal.returns
returns c = rw (c.in_ok-target.ensures, c.in_ok-target-2.ensures, c.in_ok-op.ensures, c.in_ok-value.ensures, tree_AugAssign) refl
