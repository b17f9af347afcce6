use Rattle.std.proofs.Common.{refl}
use Rattle.py_tree.proofs.View.{tree_UnaryOp}
use Rattle.py_rows_exprs.proofs.operations.unary_op_node.Goals as goal

pub returns : goal.returns
returns c = rw (c.in_ok-op.ensures, c.in_ok-op-2.ensures, c.in_ok-operand.ensures, tree_UnaryOp) refl
