use Rattle.std.proofs.Common.{refl}
use Rattle.py_rows_stmts.proofs.definitions.function_head.Goals as goal

pub returns : goal.returns
returns c = rw (c.in_ok-name.ensures, c.in_ok-args.ensures, c.in_ok-body.ensures) refl
