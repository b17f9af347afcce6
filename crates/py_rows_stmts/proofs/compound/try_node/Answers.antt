use Rattle.std.proofs.Common.{refl}
use Rattle.py_tree.proofs.View.{tree_Try}
use Rattle.py_rows_stmts.proofs.compound.try_node.Goals as goal

pub returns : goal.returns
returns c = rw (c.in_ok-body.ensures, tree_Try) refl
