use Rattle.std.proofs.Common.{refl}
use Rattle.py_rows_stmts.proofs.compound.try_parts.Goals as goal

pub returns : goal.returns
returns c = rw (c.in_ok-body.ensures, c.in_ok-body-2.ensures, c.in_ok-handlers.ensures, c.in_ok-orelse.ensures, c.in_ok-finalbody.ensures) refl
