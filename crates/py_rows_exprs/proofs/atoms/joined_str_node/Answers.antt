use Rattle.std.proofs.Common.{refl}
use Rattle.py_tree.proofs.View.{tree_JoinedStr}
use Rattle.py_rows_exprs.proofs.atoms.joined_str_node.Goals as goal

pub returns : goal.returns
returns c = rw (c.in_ok-field.ensures, c.in_ok-values.ensures, tree_JoinedStr) refl
