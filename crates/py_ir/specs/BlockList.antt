-- Blocks with one that grows, and what is done to them.
use Rattle.std.specs.Prelude.{◌≡◌, ◌≢◌, ℕ, zero, suc, ◌-◌, ◌<◌, List, [], ◌∷◌, ◌++◌, length, replicate, take, map, Option, slice_get, slice_set, slice_index, slice_index_or}
use Rattle.std.specs.List.{Contains}
use Rattle.py_dataflow.specs.declared.info.BlockIdx.{BlockIdx}
use Rattle.py_dataflow.specs.declared.info.InstructionInfo.{InstructionInfo}
use Rattle.py_ir.specs.declared.blocks.Block.{Block}
use Rattle.py_ir.specs.Chain.{IsChain, plain}

-- blocks by their numbers, and the number of the block that grows
pub record BlockList : Type 0 where
  pub blocks : List Block
  pub current : BlockIdx

abbrev pub block_idx : ℕ → BlockIdx
block_idx n = record { 0 = n }

abbrev pub empty_block : Block
empty_block = record { instructions = []; next = block_idx 0xffff_ffff }

abbrev pub block_at : BlockList → ℕ → Block
block_at v b = slice_index_or v.blocks b empty_block

abbrev pub current_block : BlockList → Block
current_block v = block_at v v.current.0

abbrev pub with_current : BlockList → Block → BlockList
with_current v block = record { blocks = slice_set v.blocks v.current.0 block; current = v.current }

-- one empty block
abbrev pub one_block : BlockList
one_block = record { blocks = empty_block ∷ []; current = block_idx 0 }

abbrev pub with_items : Block → List InstructionInfo → Block
with_items b xs = record { instructions = b.instructions ++ xs; next = b.next }

abbrev pub without_last : Block → Block
without_last b = record { instructions = take (length b.instructions - 1) b.instructions; next = b.next }

abbrev pub leading_to : Block → BlockIdx → Block
leading_to b next = record { instructions = b.instructions; next = next }

-- the instructions are last in the current block
abbrev pub with_appended : BlockList → List InstructionInfo → BlockList
with_appended v xs = with_current v (with_items (current_block v) xs)

abbrev pub with_item : BlockList → InstructionInfo → BlockList
with_item v x = with_appended v (x ∷ [])

abbrev pub last_item : BlockList → Option InstructionInfo
last_item v = slice_get (current_block v).instructions (length (current_block v).instructions - 1)

-- the current block has lost its last instruction
abbrev pub without_last_item : BlockList → BlockList
without_last_item v = with_current v (without_last (current_block v))

-- one empty block more
abbrev pub with_new_block : BlockList → BlockList
with_new_block v = record { blocks = v.blocks ++ empty_block ∷ []; current = v.current }

-- the block is next after the current one, and is current
abbrev pub with_next_block : BlockList → BlockIdx → BlockList
with_next_block v b = record { blocks = slice_set v.blocks v.current.0 (leading_to (current_block v) b); current = b }

-- the block is made, and no block of the chain
pub record IsOutside (v : BlockList) (b : ℕ) : Type 0 where
  pub made : b < length v.blocks
  pub other : b ≢ v.current.0
  pub no_next : (block_at v b).next ≡ block_idx 0xffff_ffff

-- the current block is the last of the chain, and the blocks outside the chain are empty
pub record IsWhole (v : BlockList) : Type 0 where
  pub chain : List ℕ
  pub is_chain : IsChain (map plain v.blocks) chain
  pub last : slice_index chain (length chain - 1) ≡ v.current.0
  pub outside : (b : ℕ) → b < length v.blocks → ¬ Contains chain b → block_at v b ≡ empty_block

-- so many empty blocks
abbrev pub empty_blocks : ℕ → BlockList
empty_blocks count = record { blocks = replicate count empty_block; current = block_idx 0 }

-- the block at a place of the chain is current; the first is so from the start
abbrev pub with_chain_block : BlockList → (at : ℕ) → BlockIdx → BlockList
with_chain_block v zero b = v
with_chain_block v (suc at) b = with_next_block v b

-- the blocks outside the chain are emptied, and the last of the chain is current
pub record IsChainOf (given : List Block) (kept : BlockList) : Type 0 where
  pub chain : List ℕ
  pub is_chain : IsChain (map plain given) chain
  pub long : length kept.blocks ≡ length given
  pub inside : (b : ℕ) → Contains chain b → block_at kept b ≡ slice_index_or given b empty_block
  pub outside : (b : ℕ) → b < length given → ¬ Contains chain b → block_at kept b ≡ empty_block
  pub current : kept.current.0 ≡ slice_index chain (length chain - 1)
