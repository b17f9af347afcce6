use Rattle.std.proofs.Common.{refl}
use Rattle.py_rows.proofs.programs.module_node.Goals as goal

pub returns : goal.returns
returns c = rw (c.in_ok-field.ensures, c.in_ok-body.ensures) refl
