use Rattle.std.proofs.Common.{refl}
use Rattle.py_tree.proofs.View.{tree_GeneratorExp}
use Rattle.py_rows_exprs.proofs.displays.generator_exp_node.Goals as goal

pub returns : goal.returns
returns c = rw (c.in_ok-elt.ensures, tree_GeneratorExp) refl
