use Rattle.std.proofs.Common.{refl}
use Rattle.py_rows_stmts.proofs.pieces.type_var_node.Goals as goal

pub returns : goal.returns
returns c = rw (c.in_ok-name.ensures, c.in_ok-name-2.ensures, c.in_ok-bound.ensures) refl
