use Rattle.std.proofs.Common.{refl}
use Rattle.py_rows_stmts.proofs.pieces.item_node.Goals as goal

pub returns : goal.returns
returns c = rw (c.in_ok-context_expr.ensures, c.in_ok-context_expr-2.ensures, c.in_ok-optional_vars.ensures) refl
