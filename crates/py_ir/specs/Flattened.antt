-- The list of a chain, as it is checked, walked and laid out.
use Rattle.std.specs.Prelude.{◌≡◌, ℕ, ◌≤◌, List, length, All}
use Rattle.py_dataflow.specs.declared.info.InstructionInfo.{InstructionInfo}
use Rattle.py_ir.specs.Chain.{Blk, blk, IsChain, StartsAt, flat}

-- the list is that of the chain, and each block starts at its place
pub record IsFlattened (level : ℕ) (bs : List Blk) (cs starts : List ℕ) (items : List InstructionInfo) : Type 0 where
  pub is_chain : IsChain bs cs
  pub starts_at : StartsAt level bs cs starts
  pub list : items ≡ flat level bs cs
  pub within : All (λ s. s ≤ length items) starts

-- the list is that of some chain
pub record Flattened (cs starts : List ℕ) (items : List InstructionInfo) : Type 0 where
  pub level : ℕ
  pub blocks : List Blk
  pub is : IsFlattened level blocks cs starts items

-- the chain of the second is that of the first, and has the same blocks
pub record SameChain (bs ds : List Blk) : Type 0 where
  pub long : length bs ≡ length ds
  pub chain : (cs : List ℕ) → IsChain ds cs → IsChain bs cs
  pub blocks : (cs : List ℕ) → IsChain ds cs → All (λ c. blk bs c ≡ blk ds c) cs
