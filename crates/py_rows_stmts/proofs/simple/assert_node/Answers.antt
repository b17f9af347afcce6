use Rattle.std.proofs.Common.{refl}
use Rattle.py_tree.proofs.View.{tree_Assert}
use Rattle.py_rows_stmts.proofs.simple.assert_node.Goals as goal

pub returns : goal.returns
returns c = rw (c.in_ok-test.ensures, c.in_ok-test-2.ensures, c.in_ok-msg.ensures, tree_Assert) refl
