-- What is emitted of a comprehension, part by part.
use Rattle.std.specs.Prelude.{◌||◌, ℕ, List, [], ◌∷◌, length, Bool, codes}
use Rattle.py_tree.specs.Tree as tree
use Rattle.py_tree.specs.View.{expr_tree}
use Rattle.py_bytecode.specs.declared.instruction.Instruction.TheVariants as op
use Rattle.py_bytecode.specs.Objects as const
use Rattle.py_emission_parts.specs.Comprehensions.{ClauseEmissions, as_element, clauses, comprehension}
use Rattle.py_emission_parts.specs.Emitting.{Emission, ◌▸◌, emit, emit_constant, generator_mark, keep}
use Rattle.py_emission.specs.Awaits.{awaits, some_async}
use Rattle.py_emission.specs.Emission.{clause_emissions, emission}
use Rattle.py_expr_scopes.specs.declared.comprehensions.ComprehensionElement.{ComprehensionElement}
use Rattle.py_expr_scopes.specs.declared.comprehensions.ComprehensionElement.TheVariants as element

-- the name of the scope
abbrev pub name_of : ComprehensionElement → List ℕ
name_of (element.List e) = codes "<listcomp>"
name_of (element.Set e) = codes "<setcomp>"
name_of (element.Dict k v) = codes "<dictcomp>"
name_of (element.Generator e) = codes "<genexpr>"

-- a clause is async, or the element of a generator awaits
abbrev pub is_awaited : tree.Generators → ComprehensionElement → Bool
is_awaited gs (element.List e) = some_async gs
is_awaited gs (element.Set e) = some_async gs
is_awaited gs (element.Dict k v) = some_async gs
is_awaited gs (element.Generator e) = some_async gs || awaits (expr_tree e.now)

-- the empty collection
abbrev pub collection : ComprehensionElement → Emission
collection (element.List e) = emit op.BuildList 0
collection (element.Set e) = emit op.BuildSet 0
collection (element.Dict k v) = emit op.BuildMap 0
collection (element.Generator e) = keep

-- the element
abbrev pub element_of : ComprehensionElement → Emission
element_of (element.List e) = as_element (emission (expr_tree e.now))
element_of (element.Set e) = as_element (emission (expr_tree e.now))
element_of (element.Dict k v) = emission (expr_tree k.now) ▸ emission (expr_tree v.now)
element_of (element.Generator e) = as_element (emission (expr_tree e.now))

-- what adds the element to the collection, over which so many iterators lie, or what hands it on
abbrev pub added_element : ComprehensionElement → (depth : ℕ) → Emission
added_element (element.List e) n = emit op.ListAppend n
added_element (element.Set e) n = emit op.SetAdd n
added_element (element.Dict k v) n = emit op.MapAdd n
added_element (element.Generator e) n = generator_mark ▸ emit op.YieldValue 0 ▸ emit op.Pop 0

-- what the scope returns
abbrev pub final_return : ComprehensionElement → Emission
final_return (element.List e) = emit op.ReturnValue 0
final_return (element.Set e) = emit op.ReturnValue 0
final_return (element.Dict k v) = emit op.ReturnValue 0
final_return (element.Generator e) = emit_constant op.ReturnConst const.none

-- the element and what takes it, within clauses
abbrev pub turn : List ClauseEmissions → ComprehensionElement → Emission
turn cs e = element_of e ▸ added_element e (length cs)

-- the scope
abbrev pub scope_of : List ClauseEmissions → ComprehensionElement → Emission
scope_of cs e = collection e ▸ clauses cs (turn cs e) ▸ final_return e

-- a comprehension with these clauses
abbrev pub comprehension_of : tree.Generators → ComprehensionElement → Emission
comprehension_of gs e = let cs = clause_emissions gs in comprehension (is_awaited gs e) (name_of e) cs (scope_of cs e)

-- what the first clause goes over
abbrev pub first_iterable : List ClauseEmissions → Emission
first_iterable [] = keep
first_iterable (c ∷ cs) = c.iterable
