use Rattle.std.proofs.Common.{refl}
use Rattle.py_rows_stmts.proofs.pieces.handler_node.Goals as goal

pub returns : goal.returns
returns c = rw (c.in_ok-type_.ensures, c.in_ok-type_-2.ensures, c.in_ok-name.ensures, c.in_ok-body.ensures) refl
