use Rattle.std.proofs.Common.{◌≡◌, ◌≤◌, ◌+◌, drop}
use Rattle.py_tree.specs.View.{expr_tree, exprs}
use Rattle.py_emission_parts.specs.Elements.{before_star}
use Rattle.py_meaning.specs.ExprFaults.{as_elements}
use Rattle.py_interp_exprs.proofs.targets.before_star.Given as goal

abbrev pub invariant-loop-elt : goal.invariant-loop-elt
invariant-loop-elt l = (l.before ≤ l.elt-index) × (l.before + before_star (as_elements (exprs expr_tree (drop l.elt-index l.elts))) ≡ before_star (as_elements (exprs expr_tree l.elts)))
