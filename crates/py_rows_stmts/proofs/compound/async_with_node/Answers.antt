use Rattle.std.proofs.Common.{refl}
use Rattle.py_tree.proofs.View.{tree_AsyncWith}
use Rattle.py_rows_stmts.proofs.compound.async_with_node.Goals as goal

pub returns : goal.returns
returns c = rw (c.in_ok-items.ensures, tree_AsyncWith) refl
