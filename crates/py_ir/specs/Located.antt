-- Places of the list of instructions, and the blocks and indices that errors carry.
use Rattle.std.specs.Prelude.{◌≡◌, ℕ, ◌+◌, ◌-◌, ◌^◌, ◌<◌, ◌≤◌, ◌⊎◌, List, length, slice_index}
use Rattle.py_dataflow.specs.declared.known.Refused.{Refused as Walked}
use Rattle.py_dataflow.specs.declared.info.InstructionInfo.{InstructionInfo}
use Rattle.py_dataflow.specs.Flat.{look_at}
use Rattle.py_dataflow.specs.Walks.{Sound}
use Rattle.py_dataflow.specs.Shown.{RefusalAt}
use Rattle.py_layout.specs.Widths as widths
use Rattle.py_layout.specs.Written.{needs_of}
use Rattle.py_ir.specs.declared.checks.Check.{Check}
use Rattle.py_ir.specs.declared.error.FinalizeError.{FinalizeError}
use Rattle.py_ir.specs.Refusals.{capped_place}

-- the block is the last of the chain that starts at the place or before it
pub record IsLocated (cs starts : List ℕ) (place b i : ℕ) : Type 0 where
  pub at : ℕ
  pub within : at < length cs
  pub block : slice_index cs at ≡ b
  pub here : slice_index starts b + i ≡ place
  pub after : (m : ℕ) → at < m → m < length cs → place < slice_index starts (slice_index cs m)

-- the error that a check has at a block and an index
abbrev pub check_error : Check → (b i : ℕ) → FinalizeError
check_error Check.TargetOutside b i = FinalizeError.TargetOutside b (capped_place i)
check_error Check.JumpWithoutTarget b i = FinalizeError.JumpWithoutTarget b (capped_place i)
check_error Check.TargetOnOther b i = FinalizeError.TargetOnOther b (capped_place i)
check_error Check.PrefixGiven b i = FinalizeError.PrefixGiven b (capped_place i)
check_error Check.OperandOutside b i = FinalizeError.OperandOutside b (capped_place i)

-- the error that a refused walk has at a block and an index, or where the last block is this one
abbrev pub walk_error : Walked → (last b i : ℕ) → FinalizeError
walk_error Walked.NoEnd last b i = FinalizeError.NoEnd last
walk_error Walked.UnevenHeights last b i = FinalizeError.UnevenHeights b (capped_place i)
walk_error Walked.HeightOutOfRange last b i = FinalizeError.HeightOutOfRange b (capped_place i)
walk_error Walked.BlockMismatch last b i = FinalizeError.BlockMismatch b (capped_place i)
walk_error Walked.OutOfMemory last b i = FinalizeError.OutOfMemory

-- the error gives the check at the place
pub record NamesCheck (cs starts : List ℕ) (check : Check) (place : ℕ) (e : FinalizeError) : Type 0 where
  pub block : ℕ
  pub index : ℕ
  pub located : IsLocated cs starts place block index
  pub is : e ≡ check_error check block index

-- the error gives the walk at the place
pub record NamesWalk (cs starts : List ℕ) (refused : Walked) (place : ℕ) (e : FinalizeError) : Type 0 where
  pub block : ℕ
  pub index : ℕ
  pub located : IsLocated cs starts place block index
  pub is : e ≡ walk_error refused (slice_index cs (length cs - 1)) block index

-- a walk over the list is refused, and the error gives it
pub record WalkFault (cs starts : List ℕ) (items : List InstructionInfo) (e : FinalizeError) : Type 0 where
  pub refused : Walked
  pub place : ℕ
  pub names : NamesWalk cs starts refused place e
  pub refusal : RefusalAt (look_at starts items) refused place

-- walks over the list are sound, and no choice of widths has fewer than 2 ^ 32 units
pub record UnitsFault (starts : List ℕ) (items : List InstructionInfo) (e : FinalizeError) : Type 0 where
  pub is : e ≡ FinalizeError.TooManyUnits
  pub too_many : widths.TooManyUnits (needs_of starts items)
  pub limit : ℕ
  pub low : limit ≤ 2 ^ 32
  pub sound : Sound (look_at starts items) 0 limit

-- why a checked list has no code
abbrev pub ListRefused : List ℕ → List ℕ → List InstructionInfo → FinalizeError → Type 0
ListRefused cs starts items e = (e ≡ FinalizeError.OutOfMemory) ⊎ (WalkFault cs starts items e ⊎ UnitsFault starts items e)
