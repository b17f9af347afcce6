use Rattle.std.proofs.Common.{◌≡◌, drop}
use Rattle.py_tree.specs.View.{expr_tree, exprs}
use Rattle.py_emission_parts.specs.Elements.{has_starred}
use Rattle.py_emission_parts.specs.EmissionParts.{elements}
use Rattle.py_emission.specs.Emission.{all_emissions}
use Rattle.py_expr_parts.proofs.elements.has_star.Given as goal

abbrev pub invariant-loop-elt : goal.invariant-loop-elt
invariant-loop-elt l = has_starred (elements (all_emissions (exprs expr_tree l.elts))) ≡ has_starred (elements (all_emissions (exprs expr_tree (drop l.elt-index l.elts))))
