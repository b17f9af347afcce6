use Rattle.std.proofs.Common.{refl}
use Rattle.py_rows_exprs.proofs.pieces.keyword_node.Goals as goal

pub returns : goal.returns
returns c = rw (c.in_ok-arg.ensures, c.in_ok-arg-2.ensures, c.in_ok-value.ensures) refl
