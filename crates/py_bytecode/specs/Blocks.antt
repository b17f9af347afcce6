-- The machine on blocks: a place is a block and an index in it, and there is no limit of height.
use Rattle.std.specs.Prelude.{ℕ, zero, suc, List, [], length, Option, Some, None, nat_lt, slice_get, if◌then◌else◌}
use Rattle.py_bytecode.specs.declared.instruction.Instruction.{Instruction}
use Rattle.py_bytecode.specs.Objects.{Object}
use Rattle.py_bytecode.specs.Values.{Answer, Ran}
use Rattle.py_bytecode.specs.Machine.{Fetched, Nothing, machine, start}
use Rattle.py_bytecode.specs.Decode.{Tables, instr_of}
use Rattle.py_bytecode.specs.Units.{fetch_of_instr}

-- an instruction with its operand, and the number of the block that it names where it jumps
pub record Item : Type 0 where
  pub op : Instruction
  pub arg : ℕ
  pub target : Option ℕ

-- a block: its instructions, and the number of the block after it
pub record Block : Type 0 where
  pub items : List Item
  pub next : Option ℕ

pub data Place : Type 0 where
  Of : (block index : ℕ) → Place

abbrev pub block_of : Option Block → Block
block_of None = record { items = []; next = None }
block_of (Some b) = b

-- a number past the last block has nothing in it
abbrev pub block_at : List Block → ℕ → Block
block_at bs b = block_of (slice_get bs b)

abbrev pub hop : Option ℕ → Place → (ℕ → Place) → Place
hop None p go = p
hop (Some b) p go = go b

-- the place itself where an instruction stands, else the first of the blocks after it, at most so many of them
abbrev pub settle : List Block → ℕ → Place → Place
settle bs zero p = p
settle bs (suc n) (Of b i) = if nat_lt i (length (block_at bs b).items) then Of b i else hop (block_at bs b).next (Of b i) (λ c. settle bs n (Of c 0))

abbrev pub settled_place : List Block → Place → Place
settled_place bs p = settle bs (length bs) p

-- where a jump to a block arrives
abbrev pub arrives : List Block → Option ℕ → Option Place
arrives bs None = None
arrives bs (Some b) = if nat_lt b (length bs) then Some (settled_place bs (Of b 0)) else None

abbrev pub at_index : Tables → List Block → (block index : ℕ) → Option Item → Fetched Object Place
at_index t bs b i None = Nothing
at_index t bs b i (Some x) = fetch_of_instr (instr_of t (arrives bs x.target) x.op x.arg) (settled_place bs (Of b (suc i)))

abbrev pub fetch_block : Tables → List Block → Place → Fetched Object Place
fetch_block t bs (Of b i) = at_index t bs b i (slice_get (block_at bs b).items i)

-- the run of blocks, from block 0, of at most so many steps
abbrev pub block_machine : Tables → List Block → (fuel : ℕ) → List Answer → Ran Object
block_machine t bs fuel answers = machine (fetch_block t bs) fuel (settled_place bs (Of 0 0)) (start answers)
