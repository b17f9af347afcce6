use Rattle.std.proofs.Common.{refl}
use Rattle.py_rows_exprs.proofs.displays.elements.Goals as goal

pub returns : goal.returns
returns c = rw (c.in_ok-field.ensures, c.in_ok-elts.ensures) refl
