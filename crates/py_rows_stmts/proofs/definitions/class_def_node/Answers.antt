use Rattle.std.proofs.Common.{refl}
use Rattle.py_tree.proofs.View.{tree_ClassDef}
use Rattle.py_rows_stmts.proofs.definitions.class_def_node.Goals as goal

pub returns : goal.returns
returns c = rw (c.in_ok-name.ensures, c.in_ok-name-2.ensures, c.in_ok-body.ensures, tree_ClassDef) refl
