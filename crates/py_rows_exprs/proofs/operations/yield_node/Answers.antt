use Rattle.std.proofs.Common.{refl}
use Rattle.py_tree.proofs.View.{tree_Yield}
use Rattle.py_rows_exprs.proofs.operations.yield_node.Goals as goal

pub returns : goal.returns
returns c = rw (c.in_ok-field.ensures, c.in_ok-value.ensures, tree_Yield) refl
