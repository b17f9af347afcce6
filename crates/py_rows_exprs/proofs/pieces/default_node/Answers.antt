use Rattle.std.proofs.Common.{refl}
use Rattle.py_rows_exprs.proofs.pieces.default_node.Goals as goal

pub returns : goal.returns
returns c = rw (c.in_ok-def.ensures, c.in_ok-def-2.ensures, c.in_ok-default.ensures) refl
