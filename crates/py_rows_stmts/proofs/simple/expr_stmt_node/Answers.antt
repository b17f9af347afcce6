use Rattle.std.proofs.Common.{refl}
use Rattle.py_tree.proofs.View.{tree_StmtExpr}
use Rattle.py_rows_stmts.proofs.simple.expr_stmt_node.Goals as goal

pub returns : goal.returns
returns c = rw (c.in_ok-field.ensures, c.in_ok-value.ensures, tree_StmtExpr) refl
