-- What is emitted of the iterator of a loop, and of the type of a handler.
use Rattle.std.specs.Prelude.{ℕ, List, Option}
use Rattle.py_tree.specs.Tree as tree
use Rattle.py_bytecode.specs.declared.instruction.Instruction.TheVariants as op
use Rattle.py_emission_parts.specs.Emitting.{Emission, ◌▸◌, emit}
use Rattle.py_emission.specs.Emission.{emission}
use Rattle.py_emission.specs.ControlEmissions.{any_match, caught_name, typed_match}

-- the iterator of a loop
abbrev pub each_begun : (iter : Emission) → Emission
each_begun iter = emit op.SetupLoop 0 ▸ iter ▸ emit op.GetIter 0

-- what an exception has to be, by a handler's type
abbrev pub emission_of_match : (type : tree.OptExpr) → (name : Option (List ℕ)) → (next : ℕ) → Emission
emission_of_match tree.no_expr name = any_match
emission_of_match (tree.some_expr e) name = typed_match (emission e) (caught_name name)
