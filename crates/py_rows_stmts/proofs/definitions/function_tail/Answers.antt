use Rattle.std.proofs.Common.{refl}
use Rattle.py_rows_stmts.proofs.definitions.function_tail.Goals as goal

pub returns : goal.returns
returns c = rw (c.in_ok-decorator_list.ensures, c.in_ok-returns.ensures, c.in_ok-type_params.ensures) refl
