use Rattle.std.proofs.Common.{◌≡◌, drop}
use Rattle.py_tree.specs.View.{expr_tree, keywords}
use Rattle.py_emission_parts.specs.Elements.{has_starred}
use Rattle.py_emission.specs.Emission.{keyword_emissions}
use Rattle.py_expr_parts.proofs.keywords.has_double_star.Given as goal

abbrev pub invariant-loop-keyword : goal.invariant-loop-keyword
invariant-loop-keyword l = has_starred (keyword_emissions (keywords expr_tree (drop l.keyword-index l.keywords))) ≡ has_starred (keyword_emissions (keywords expr_tree l.keywords))
