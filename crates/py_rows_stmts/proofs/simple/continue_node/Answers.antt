use Rattle.std.proofs.Common.{refl}
use Rattle.py_tree.proofs.View.{tree_Continue}
use Rattle.py_rows_stmts.proofs.simple.continue_node.Goals as goal

pub returns : goal.returns
returns c = rw (c.in_ok-no_field.ensures, tree_Continue) refl
