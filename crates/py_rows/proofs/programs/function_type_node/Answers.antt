use Rattle.std.proofs.Common.{refl}
use Rattle.py_rows.proofs.programs.function_type_node.Goals as goal

pub returns : goal.returns
returns c = rw (c.in_ok-argtypes.ensures, c.in_ok-argtypes-2.ensures, c.in_ok-returns.ensures) refl
