use Rattle.std.proofs.Common.{refl}
use Rattle.py_tree.proofs.View.{tree_DictComp}
use Rattle.py_rows_exprs.proofs.displays.dict_comp_node.Goals as goal

pub returns : goal.returns
returns c = rw (c.in_ok-key.ensures, c.in_ok-key-2.ensures, c.in_ok-value.ensures, c.in_ok-generators.ensures, tree_DictComp) refl
