use Rattle.std.proofs.Common.{refl}
use Rattle.py_rows_exprs.proofs.pieces.comprehension_node.Goals as goal

pub returns : goal.returns
returns c = rw (c.in_ok-target.ensures, c.in_ok-target-2.ensures, c.in_ok-iter.ensures, c.in_ok-ifs.ensures, c.in_ok-is_async.ensures) refl
