use Rattle.std.proofs.Common.{refl}
use Rattle.py_tree.proofs.View.{tree_Constant}
use Rattle.py_rows_exprs.proofs.atoms.constant_expr_node.Goals as goal

pub returns : goal.returns
returns c = rw (c.in_ok-field.ensures, c.in_ok-value.ensures, tree_Constant) refl
