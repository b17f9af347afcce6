use Rattle.std.proofs.Common.{refl}
use Rattle.py_rows_stmts.proofs.compound.with_parts.Goals as goal

pub returns : goal.returns
returns c = rw (c.in_ok-items.ensures, c.in_ok-items-2.ensures, c.in_ok-body.ensures) refl
