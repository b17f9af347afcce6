use Rattle.std.proofs.Common.{refl}
use Rattle.py_tree.proofs.View.{tree_BinOp}
use Rattle.py_rows_exprs.proofs.operations.bin_op_node.Goals as goal

pub returns : goal.returns
returns c = rw (c.in_ok-left.ensures, c.in_ok-left-2.ensures, c.in_ok-op.ensures, c.in_ok-right.ensures, tree_BinOp) refl
