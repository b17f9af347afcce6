-- What is emitted of a comprehension that is given by its parts.
use Rattle.py_tree.specs.View.{expr_tree, generators as clause_trees}
use Rattle.py_emission_parts.specs.Emitting.{Emission}
use Rattle.py_expr_scopes.specs.Comprehensions.{comprehension_of}
use Rattle.py_expr_scopes.specs.declared.comprehensions.ComprehensionElement.TheVariants as element
use Rattle.py_calls.specs.declared.comprehensions.ComprehensionParts.{ComprehensionParts}
use Rattle.py_calls.specs.declared.comprehensions.ComprehensionParts.TheVariants as parts

abbrev pub emission_of_parts : ComprehensionParts → Emission
emission_of_parts (parts.List elt generators) = comprehension_of (clause_trees expr_tree generators.now) (element.List elt)
emission_of_parts (parts.Set elt generators) = comprehension_of (clause_trees expr_tree generators.now) (element.Set elt)
emission_of_parts (parts.Dict key value generators) = comprehension_of (clause_trees expr_tree generators.now) (element.Dict key value)
emission_of_parts (parts.Generator elt generators) = comprehension_of (clause_trees expr_tree generators.now) (element.Generator elt)
