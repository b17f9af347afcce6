use Rattle.std.proofs.Common.{refl}
use Rattle.py_tree.proofs.View.{tree_ImportFrom}
use Rattle.py_rows_stmts.proofs.simple.import_from_node.Goals as goal

pub returns : goal.returns
returns c = rw (c.in_ok-module.ensures, c.in_ok-module-2.ensures, c.in_ok-names.ensures, c.in_ok-level.ensures, tree_ImportFrom) refl
