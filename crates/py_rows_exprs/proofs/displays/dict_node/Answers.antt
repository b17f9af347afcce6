use Rattle.std.proofs.Common.{refl}
use Rattle.py_tree.proofs.View.{tree_Dict}
use Rattle.py_rows_exprs.proofs.displays.dict_node.Goals as goal

pub returns : goal.returns
returns c = rw (c.in_ok-keys.ensures, c.in_ok-keys-2.ensures, c.in_ok-values.ensures, tree_Dict) refl
