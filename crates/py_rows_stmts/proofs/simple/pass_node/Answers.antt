use Rattle.std.proofs.Common.{refl}
use Rattle.py_tree.proofs.View.{tree_Pass}
use Rattle.py_rows_stmts.proofs.simple.pass_node.Goals as goal

pub returns : goal.returns
returns c = rw (c.in_ok-no_field.ensures, tree_Pass) refl
