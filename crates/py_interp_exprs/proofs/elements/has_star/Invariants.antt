use Rattle.std.proofs.Common.{◌≡◌, drop}
use Rattle.py_tree.specs.View.{expr_tree, exprs}
use Rattle.py_interp_exprs.specs.Starred.{any_starred}
use Rattle.py_interp_exprs.proofs.elements.has_star.Given as goal

abbrev pub invariant-loop-elt : goal.invariant-loop-elt
invariant-loop-elt l = any_starred (exprs expr_tree l.elts) ≡ any_starred (exprs expr_tree (drop l.elt-index l.elts))
