use Rattle.std.proofs.Common.{refl}
use Rattle.py_rows_exprs.proofs.displays.element_and_clauses.Goals as goal

pub returns : goal.returns
returns c = rw (c.in_ok-elt.ensures, c.in_ok-elt-2.ensures, c.in_ok-generators.ensures) refl
