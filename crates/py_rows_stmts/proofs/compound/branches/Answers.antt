use Rattle.std.proofs.Common.{refl}
use Rattle.py_rows_stmts.proofs.compound.branches.Goals as goal

pub returns : goal.returns
returns c = rw (c.in_ok-test.ensures, c.in_ok-test-2.ensures, c.in_ok-body.ensures, c.in_ok-orelse.ensures) refl
