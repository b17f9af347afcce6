-- Blocks as the steps of an emission.
use Rattle.std.specs.Prelude.{◌≢◌, ◌<◌, ℕ, zero, suc, List, [], ◌∷◌, ◌++◌, length, map, Option, Some, None}
use Rattle.py_base.specs.declared.location.SourceLocation.{SourceLocation}
use Rattle.py_bytecode.specs.declared.instruction.Instruction.TheVariants as op
use Rattle.py_dataflow.specs.declared.info.InstructionInfo.{InstructionInfo}
use Rattle.py_ir.specs.Chain.{Blk, blk, block_number}
use Rattle.py_emission_parts.specs.Emitting.{Step, Put, Begin, State}
use Rattle.py_emission_parts.specs.Listed.{Begun}

abbrev pub step_of : InstructionInfo → Step
step_of x = Put x.instr x.arg.0 (block_number x.target.0) x.location

abbrev pub onwards : Option ℕ → (ℕ → List Step) → List Step
onwards None go = []
onwards (Some b) go = Begin b ∷ go b

-- the instructions of a block and of those that follow it, at most so many blocks, and where each of these begins
abbrev pub steps_from : List Blk → (count block : ℕ) → List Step
steps_from bs zero b = []
steps_from bs (suc n) b = map step_of (blk bs b).items ++ onwards (blk bs b).next (steps_from bs n)

abbrev pub steps_in : List Blk → List Step
steps_in bs = steps_from bs (length bs) 0

-- the block is made and has not begun; block 0 has from the start
pub record IsOpen (b : ℕ) (s : State) : Type 0 where
  pub made : b < s.blocks
  pub later : b ≢ 0
  pub not_begun : ¬ Begun b s.steps

-- a block begins at the last step, where there is one: the last block is empty
abbrev pub EndsAtBegin : List Step → Type 0
EndsAtBegin [] = Unit {0}
EndsAtBegin (Put i n to at ∷ []) = ⊥
EndsAtBegin (Begin b ∷ []) = Unit {0}
EndsAtBegin (x ∷ y ∷ xs) = EndsAtBegin (y ∷ xs)

-- a load of a constant becomes its return; what else stands last is followed by a return of the value on top
abbrev pub closed_step : SourceLocation → Step → List Step
closed_step at (Put op.LoadConst n to there) = Put op.ReturnConst n to there ∷ []
closed_step at x = x ∷ Put op.ReturnValue 0 None at ∷ []

abbrev pub returned_steps : SourceLocation → List Step → List Step
returned_steps at [] = Put op.ReturnValue 0 None at ∷ []
returned_steps at (x ∷ []) = closed_step at x
returned_steps at (x ∷ y ∷ xs) = x ∷ returned_steps at (y ∷ xs)

-- the value on top is returned
unfoldable pub with_return : State → State
with_return s = record s { steps = returned_steps s.location s.steps }

-- the value on top is returned after this last step
unfoldable pub with_closed : Step → State → State
with_closed x s = record s { steps = s.steps ++ closed_step s.location x }
