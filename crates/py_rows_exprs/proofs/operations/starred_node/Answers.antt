use Rattle.std.proofs.Common.{refl}
use Rattle.py_tree.proofs.View.{tree_Starred}
use Rattle.py_rows_exprs.proofs.operations.starred_node.Goals as goal

pub returns : goal.returns
returns c = rw (c.in_ok-value.ensures, tree_Starred) refl
