use Rattle.std.proofs.Common.{◌≡◌, ◌≤◌, ◌+◌, drop}
use Rattle.py_tree.specs.View.{expr_tree, exprs}
use Rattle.py_emission_parts.specs.Elements.{before_star}
use Rattle.py_emission.specs.Emission.{all_stores}
use Rattle.py_expr_parts.proofs.targets.before_star.Given as goal

abbrev pub invariant-loop-elt : goal.invariant-loop-elt
invariant-loop-elt l = (l.count ≤ l.elt-index) × (l.count + before_star (all_stores (exprs expr_tree (drop l.elt-index l.elts))) ≡ before_star (all_stores (exprs expr_tree l.elts)))
