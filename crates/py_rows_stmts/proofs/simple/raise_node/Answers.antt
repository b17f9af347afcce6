use Rattle.std.proofs.Common.{refl}
use Rattle.py_tree.proofs.View.{tree_Raise}
use Rattle.py_rows_stmts.proofs.simple.raise_node.Goals as goal

pub returns : goal.returns
returns c = rw (c.in_ok-exc.ensures, c.in_ok-exc-2.ensures, c.in_ok-cause.ensures, tree_Raise) refl
