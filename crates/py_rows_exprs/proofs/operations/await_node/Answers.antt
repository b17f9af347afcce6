use Rattle.std.proofs.Common.{refl}
use Rattle.py_tree.proofs.View.{tree_Await}
use Rattle.py_rows_exprs.proofs.operations.await_node.Goals as goal

pub returns : goal.returns
returns c = rw (c.in_ok-value.ensures, tree_Await) refl
