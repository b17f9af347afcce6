use Rattle.std.proofs.Common.{refl}
use Rattle.py_tree.proofs.View.{tree_YieldFrom}
use Rattle.py_rows_exprs.proofs.operations.yield_from_node.Goals as goal

pub returns : goal.returns
returns c = rw (c.in_ok-value.ensures, tree_YieldFrom) refl
