use Rattle.std.proofs.Common.{refl}
use Rattle.py_rows_exprs.proofs.pieces.arg_node.Goals as goal

pub returns : goal.returns
returns c = rw (c.in_ok-arg.ensures, c.in_ok-arg-2.ensures, c.in_ok-annotation.ensures) refl
