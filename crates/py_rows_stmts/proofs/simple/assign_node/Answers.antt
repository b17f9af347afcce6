use Rattle.std.proofs.Common.{refl}
use Rattle.py_tree.proofs.View.{tree_Assign}
use Rattle.py_rows_stmts.proofs.simple.assign_node.Goals as goal

pub returns : goal.returns
returns c = rw (c.in_ok-targets.ensures, c.in_ok-targets-2.ensures, c.in_ok-value.ensures, tree_Assign) refl
