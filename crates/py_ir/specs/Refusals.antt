-- Why a list of blocks has no code, by the tables that operands name.
use Rattle.std.specs.Prelude.{◌≡◌, ◌≢◌, ℕ, ◌-◌, ◌<◌, ◌≤◌, ◌^◌, ◌⊎◌, List, length, true, false, Option, Some, nat_lt, slice_get, slice_index, if◌then◌else◌}
use Rattle.std.specs.List.{Contains}
use Rattle.py_bytecode.specs.Decode.{Tables}
use Rattle.py_bytecode.specs.Units.{is_prefix}
use Rattle.py_bytecode.specs.Blocks.{Place, Of, settled_place, fetch_block}
use Rattle.py_dataflow.specs.declared.info.InstructionInfo.{InstructionInfo}
use Rattle.py_dataflow.specs.Flat.{is_jump}
use Rattle.py_dataflow.specs.Walks.{Seen, seen_instr, LeavesEnd, UnevenHeights, HeightOutOfRange, BlockMismatch}
use Rattle.py_layout.specs.Widths as widths
use Rattle.py_layout.specs.Written.{needs_of}
use Rattle.py_ir.specs.declared.checks.TableLens.{TableLens}
use Rattle.py_ir.specs.declared.error.FinalizeError.{FinalizeError}
use Rattle.py_ir.specs.Chain.{Blk, blk, body, coded_blocks, IsChain, BrokenChain, StartsAt, flat}
use Rattle.py_ir.specs.Checks.{lens_of, operand_fits}

-- what a walk over the blocks sees, and where it begins
abbrev pub block_look : Tables → List Blk → Place → Option (Seen Place)
block_look t bs p = seen_instr (fetch_block t (coded_blocks bs) p)

abbrev pub block_start : List Blk → Place
block_start bs = settled_place (coded_blocks bs) (Of 0 0)

-- the place that an error carries
abbrev pub capped_place : ℕ → ℕ
capped_place i = if nat_lt i 0xffff_ffff then i else 0xffff_ffff

-- an instruction of the chain, after the cut, of which this holds, at the place that an error carries
pub record ItemAt (level : ℕ) (bs : List Blk) (b place : ℕ) (P : List ℕ → InstructionInfo → Type 0) : Type 0 where
  pub chain : List ℕ
  pub is_chain : IsChain bs chain
  pub in_chain : Contains chain b
  pub index : ℕ
  pub carried : place ≡ capped_place index
  pub item : InstructionInfo
  pub stands : slice_get (body level (blk bs b).items) index ≡ Some item
  pub holds : P chain item

-- a place of a walk of which this holds, as an error carries it
pub record WalkAt (b place : ℕ) (P : Place → Type 0) : Type 0 where
  pub index : ℕ
  pub carried : place ≡ capped_place index
  pub holds : P (Of b index)

-- a walk leaves the last block of the chain
pub record LeavesLast (t : Tables) (bs : List Blk) (b : ℕ) : Type 0 where
  pub chain : List ℕ
  pub is_chain : IsChain bs chain
  pub last : slice_index chain (length chain - 1) ≡ b
  pub leaves : LeavesEnd (block_look t bs) (block_start bs) (Of b (length (blk bs b).items))

-- no choice of widths has fewer than 2 ^ 32 units
pub record TooWide (level : ℕ) (bs : List Blk) : Type 0 where
  pub chain : List ℕ
  pub starts : List ℕ
  pub is_chain : IsChain bs chain
  pub starts_at : StartsAt level bs chain starts
  pub too_many : widths.TooManyUnits (needs_of starts (flat level bs chain))

-- a table has 2 ^ 31 entries or more
abbrev pub TooLong : TableLens → Type 0
TooLong l = (2 ^ 31 ≤ l.constants) ⊎ ((2 ^ 31 ≤ l.names) ⊎ ((2 ^ 31 ≤ l.varnames) ⊎ (2 ^ 31 ≤ l.cells)))

-- the condition of a refusal, at the place that it carries
abbrev pub Holds : Tables → (level : ℕ) → List Blk → FinalizeError → Type 0
Holds t level bs FinalizeError.NoBlocks = length bs ≡ 0
Holds t level bs (FinalizeError.BrokenChain b) = BrokenChain bs b
Holds t level bs (FinalizeError.TargetOutside b p) = ItemAt level bs b p (λ cs x. (x.target.0 ≢ 0xffff_ffff) × ¬ Contains cs x.target.0)
Holds t level bs (FinalizeError.JumpWithoutTarget b p) = ItemAt level bs b p (λ cs x. (x.target.0 ≡ 0xffff_ffff) × (is_jump x.instr ≡ true))
Holds t level bs (FinalizeError.TargetOnOther b p) = ItemAt level bs b p (λ cs x. (x.target.0 ≢ 0xffff_ffff) × (is_jump x.instr ≡ false))
Holds t level bs (FinalizeError.PrefixGiven b p) = ItemAt level bs b p (λ cs x. is_prefix x.instr ≡ true)
Holds t level bs (FinalizeError.OperandOutside b p) = ItemAt level bs b p (λ cs x. operand_fits (lens_of t) x ≡ false)
Holds t level bs FinalizeError.TooManyNames = TooLong (lens_of t)
Holds t level bs (FinalizeError.NoEnd b) = LeavesLast t bs b
Holds t level bs (FinalizeError.UnevenHeights b p) = WalkAt b p (UnevenHeights (block_look t bs) (block_start bs))
Holds t level bs (FinalizeError.HeightOutOfRange b p) = WalkAt b p (HeightOutOfRange (block_look t bs) (block_start bs) (2 ^ 32))
Holds t level bs (FinalizeError.BlockMismatch b p) = WalkAt b p (BlockMismatch (block_look t bs) (block_start bs))
Holds t level bs FinalizeError.TooManyUnits = TooWide level bs
Holds t level bs FinalizeError.OutOfMemory = Unit {0}

-- the order of the refusals; the four on walks stand together, and out of memory says nothing of the others
abbrev pub order : FinalizeError → ℕ
order FinalizeError.NoBlocks = 0
order (FinalizeError.BrokenChain b) = 1
order (FinalizeError.TargetOutside b p) = 2
order (FinalizeError.JumpWithoutTarget b p) = 3
order (FinalizeError.TargetOnOther b p) = 4
order (FinalizeError.PrefixGiven b p) = 5
order (FinalizeError.OperandOutside b p) = 6
order FinalizeError.TooManyNames = 7
order (FinalizeError.NoEnd b) = 8
order (FinalizeError.UnevenHeights b p) = 8
order (FinalizeError.HeightOutOfRange b p) = 8
order (FinalizeError.BlockMismatch b p) = 8
order FinalizeError.TooManyUnits = 9
order FinalizeError.OutOfMemory = 0

-- none of the refusals before this number holds anywhere
abbrev pub NoneBefore : ℕ → Tables → (level : ℕ) → List Blk → Type 0
NoneBefore n t level bs = (e : FinalizeError) → order e < n → e ≢ FinalizeError.OutOfMemory → ¬ Holds t level bs e

-- its condition holds, and none before it in the order does anywhere
abbrev pub Refused : Tables → (level : ℕ) → List Blk → FinalizeError → Type 0
Refused t level bs e = Holds t level bs e × NoneBefore (order e) t level bs
