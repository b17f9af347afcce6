use Rattle.std.proofs.Common.{refl}
use Rattle.py_tree.proofs.View.{tree_AsyncFor}
use Rattle.py_rows_stmts.proofs.compound.async_for_node.Goals as goal

pub returns : goal.returns
returns c = rw (c.in_ok-target.ensures, tree_AsyncFor) refl
