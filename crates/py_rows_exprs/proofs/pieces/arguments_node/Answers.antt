use Rattle.std.proofs.Common.{refl}
use Rattle.py_rows_exprs.proofs.pieces.arguments_node.Goals as goal

pub returns : goal.returns
returns c = rw (c.in_ok-posonlyargs.ensures, c.in_ok-posonlyargs-2.ensures, c.in_ok-args.ensures, c.in_ok-vararg.ensures, c.in_ok-kwonlyargs.ensures, c.in_ok-kwarg.ensures) refl
