use Rattle.std.proofs.Common.{refl}
use Rattle.py_tree.proofs.View.{tree_Import}
use Rattle.py_rows_stmts.proofs.simple.import_node.Goals as goal

pub returns : goal.returns
returns c = rw (c.in_ok-field.ensures, c.in_ok-names.ensures, tree_Import) refl
