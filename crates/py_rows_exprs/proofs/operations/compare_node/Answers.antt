use Rattle.std.proofs.Common.{refl}
use Rattle.py_tree.proofs.View.{tree_Compare}
use Rattle.py_rows_exprs.proofs.operations.compare_node.Goals as goal

pub returns : goal.returns
returns c = rw (c.in_ok-left.ensures, c.in_ok-left-2.ensures, c.in_ok-ops.ensures, c.in_ok-comparators.ensures, tree_Compare) refl
