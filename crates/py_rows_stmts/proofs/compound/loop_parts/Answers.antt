use Rattle.std.proofs.Common.{refl}
use Rattle.py_rows_stmts.proofs.compound.loop_parts.Goals as goal

pub returns : goal.returns
returns c = rw (c.in_ok-target.ensures, c.in_ok-target-2.ensures, c.in_ok-iter.ensures, c.in_ok-body.ensures, c.in_ok-orelse.ensures) refl
