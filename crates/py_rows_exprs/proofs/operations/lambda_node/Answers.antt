use Rattle.std.proofs.Common.{refl}
use Rattle.py_tree.proofs.View.{tree_Lambda}
use Rattle.py_rows_exprs.proofs.operations.lambda_node.Goals as goal

pub returns : goal.returns
returns c = rw (c.in_ok-args.ensures, c.in_ok-args-2.ensures, c.in_ok-body.ensures, tree_Lambda) refl
