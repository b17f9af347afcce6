use Rattle.std.proofs.Common.{refl}
use Rattle.py_rows_exprs.proofs.operations.operand.Goals as goal

pub returns : goal.returns
returns c = rw (c.in_ok-field.ensures, c.in_ok-value.ensures) refl
