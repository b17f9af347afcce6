use Rattle.std.proofs.Common.{refl}
use Rattle.py_tree.proofs.View.{tree_If}
use Rattle.py_rows_stmts.proofs.compound.if_node.Goals as goal

pub returns : goal.returns
returns c = rw (c.in_ok-test.ensures, tree_If) refl
