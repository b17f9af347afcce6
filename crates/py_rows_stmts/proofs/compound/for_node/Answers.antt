use Rattle.std.proofs.Common.{refl}
use Rattle.py_tree.proofs.View.{tree_For}
use Rattle.py_rows_stmts.proofs.compound.for_node.Goals as goal

pub returns : goal.returns
returns c = rw (c.in_ok-target.ensures, tree_For) refl
