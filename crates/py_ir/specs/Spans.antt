-- Blocks that are kept in one list of instructions.
use Rattle.std.specs.Prelude.{◌≡◌, ◌≢◌, ℕ, ◌-◌, ◌<◌, ◌≤◌, List, [], ◌∷◌, ◌++◌, length, take, drop, map, All, slice_index_or}
use Rattle.std.specs.List.{Contains}
use Rattle.py_dataflow.specs.declared.info.BlockIdx.{BlockIdx}
use Rattle.py_dataflow.specs.declared.info.InstructionInfo.{InstructionInfo}
use Rattle.py_ir.specs.declared.blocks.Block.{Block}
use Rattle.py_ir.specs.declared.flat.Span.{Span}
use Rattle.py_ir.specs.declared.flat.FlatBlocks.TheInside.{Inside}
use Rattle.py_ir.specs.Chain.{Blk, IsChain, StartsAt, flat, plain}
use Rattle.py_ir.specs.BlockList.{BlockList, block_idx}

-- the block that a part of the list is
abbrev pub block_of : List InstructionInfo → Span → Block
block_of xs s = record { instructions = take (s.after - s.first) (drop s.first xs); next = s.next }

abbrev pub blocks_of : List InstructionInfo → List Span → List Block
blocks_of xs ss = map (block_of xs) ss

abbrev pub blks_of : List InstructionInfo → List Span → List Blk
blks_of xs ss = map plain (blocks_of xs ss)

abbrev pub block_list_of : List InstructionInfo → List Span → BlockIdx → BlockList
block_list_of xs ss current = record { blocks = blocks_of xs ss; current = current }

abbrev pub block_list : Inside → BlockList
block_list f = block_list_of f.items.items f.spans.items f.current

-- a block that is not placed
abbrev pub unplaced_span : Span
unplaced_span = record { first = 0; after = 0; next = block_idx 0xffff_ffff }

-- the chain goes along the list, and ends at the current block
pub record Follows (xs : List InstructionInfo) (ss : List Span) (current : ℕ) : Type 0 where
  pub before : List ℕ
  pub is_chain : IsChain (blks_of xs ss) (before ++ current ∷ [])
  pub starts_at : StartsAt 0 (blks_of xs ss) (before ++ current ∷ []) (map (λ s. s.first) ss)
  pub list : xs ≡ flat 0 (blks_of xs ss) (before ++ current ∷ [])
  pub outside : (b : ℕ) (d : Span) → b < length ss → ¬ Contains (before ++ current ∷ []) b → slice_index_or ss b d ≡ unplaced_span
  pub ordered : All (λ s. s.first ≤ s.after) ss
  pub early : (b : ℕ) (d : Span) → b < length ss → b ≢ current → (slice_index_or ss b d).after ≤ (slice_index_or ss current d).first
  pub few : length ss ≤ 0xffff_ffff
  pub full : (d : Span) → (slice_index_or ss current d).after ≡ length xs

abbrev pub IsFlat : Inside → Type 0
IsFlat f = Follows f.items.items f.spans.items f.current.0
