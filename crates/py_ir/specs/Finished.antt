-- What a code object is made of a list of blocks.
use Rattle.std.specs.Prelude.{◌≡◌, ◌≢◌, ℕ, suc, ℤ, List, All, Option, Some, None}
use Rattle.std.specs.List.{Contains}
use Rattle.py_base.specs.declared.location.SourceLocation.{SourceLocation}
use Rattle.py_bytecode.specs.declared.operand.CodeUnit.{CodeUnit}
use Rattle.py_bytecode.specs.Objects.{Object}
use Rattle.py_bytecode.specs.Cells.{parameter_of, cell_places}
use Rattle.py_bytecode.specs.Values.{World}
use Rattle.py_bytecode.specs.Machine.{machine, limited_machine}
use Rattle.py_bytecode.specs.Decode.{Tables}
use Rattle.py_bytecode.specs.Units.{fetch_unit}
use Rattle.py_bytecode.specs.Blocks.{fetch_block}
use Rattle.py_dataflow.specs.Walks.{seen_instr, Sound, IsDepth}
use Rattle.py_layout.specs.Written.{IsAssembled}
use Rattle.py_ir.specs.Chain.{Blk, IsChain, StartsAt, flat, coded_blocks}
use Rattle.py_ir.specs.Refusals.{block_look, block_start}

-- the units do what the blocks do, in as many steps, whatever their number
abbrev pub RunsAsBlocks : Tables → List Blk → List CodeUnit → (depth : ℕ) → Type 0
RunsAsBlocks t bs units depth = (fuel : ℕ) (w : World Object) → limited_machine (fetch_unit t units) depth fuel 0 w ≡ machine (fetch_block t (coded_blocks bs)) fuel (block_start bs) w

-- the units and their locations are those of the chain after the cut, in the least widths; the depth is the greatest height on a walk; and walks over the units are sound
pub record IsLaid (t : Tables) (level : ℕ) (bs : List Blk) (units : List CodeUnit) (locations : List SourceLocation) (depth : ℕ) : Type 0 where
  pub chain : List ℕ
  pub starts : List ℕ
  pub is_chain : IsChain bs chain
  pub starts_at : StartsAt level bs chain starts
  pub assembled : IsAssembled starts (flat level bs chain) units locations
  pub is_depth : IsDepth (block_look t bs) (block_start bs) depth
  pub unit_depth : IsDepth (λ p. seen_instr (fetch_unit t units p)) 0 depth
  pub sound : Sound (λ p. seen_instr (fetch_unit t units p)) 0 (suc depth)
  pub runs : RunsAsBlocks t bs units depth

-- some cell is a parameter
abbrev pub IsAny : (count : ℕ) → (varnames cells : List (List ℕ)) → Type 0
IsAny count varnames cells = (c : List ℕ) × Contains cells c × (parameter_of count varnames c ≢ None)

-- for each cell the place of its parameter, or -1; None where no cell is a parameter
abbrev pub IsCell2Arg : (count : ℕ) → (varnames cells : List (List ℕ)) → Option (List ℤ) → Type 0
IsCell2Arg count varnames cells None = All (λ c. parameter_of count varnames c ≡ None) cells
IsCell2Arg count varnames cells (Some places) = (places ≡ cell_places count varnames cells) × IsAny count varnames cells
