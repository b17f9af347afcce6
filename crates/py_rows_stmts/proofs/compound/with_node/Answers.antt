use Rattle.std.proofs.Common.{refl}
use Rattle.py_tree.proofs.View.{tree_With}
use Rattle.py_rows_stmts.proofs.compound.with_node.Goals as goal

pub returns : goal.returns
returns c = rw (c.in_ok-items.ensures, tree_With) refl
