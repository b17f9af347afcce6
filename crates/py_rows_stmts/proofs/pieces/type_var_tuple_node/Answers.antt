use Rattle.std.proofs.Common.{refl}
use Rattle.py_rows_stmts.proofs.pieces.type_var_tuple_node.Goals as goal

pub returns : goal.returns
returns c = rw (c.in_ok-field.ensures, c.in_ok-name.ensures) refl
