-- The units of a list of instructions.
use Rattle.std.specs.Prelude.{◌≡◌, ℕ, zero, suc, ◌*◌, ◌+◌, ◌/◌, ◌%◌, ◌^◌, ◌<◌, ◌++◌, List, [], ◌∷◌, All, map, replicate, slice_index, if◌then◌else◌}
use Rattle.py_base.specs.declared.location.SourceLocation.{SourceLocation}
use Rattle.py_bytecode.specs.declared.instruction.Instruction.{Instruction}
use Rattle.py_bytecode.specs.declared.instruction.Instruction.TheVariants.{ExtendedArg}
use Rattle.py_bytecode.specs.declared.operand.CodeUnit.{CodeUnit}
use Rattle.py_bytecode.specs.Operands.{units_for}
use Rattle.py_bytecode.specs.Units.{is_prefix}
use Rattle.py_dataflow.specs.declared.info.InstructionInfo.{InstructionInfo}
use Rattle.py_dataflow.specs.Flat.{is_jump, named_place}
use Rattle.py_layout.specs.declared.widths.Need.{Need}
use Rattle.py_layout.specs.declared.widths.Need.TheVariants.{Fixed, Jump}
use Rattle.py_layout.specs.Widths.{Least, offset}

abbrev pub unit : Instruction → ℕ → CodeUnit
unit op byte = record { op = op; arg = byte }

-- the units of an instruction, the highest byte of its operand first
abbrev pub units_of : Instruction → (operand width : ℕ) → List CodeUnit
units_of op operand zero = []
units_of op operand (suc zero) = unit op (operand % 256) ∷ []
units_of op operand (suc (suc w)) = unit ExtendedArg (operand / 256 ^ suc w % 256) ∷ units_of op operand (suc w)

abbrev pub need_of : List ℕ → InstructionInfo → Need
need_of starts x = if is_jump x.instr then Jump (named_place starts x) else Fixed (units_for x.arg.0)

-- what sets the widths
abbrev pub needs_of : List ℕ → List InstructionInfo → List Need
needs_of starts items = map (need_of starts) items

-- the operand that is written: a jump's is its target's offset
abbrev pub operand_in : List ℕ → List ℕ → InstructionInfo → ℕ
operand_in starts widths x = if is_jump x.instr then offset widths (named_place starts x) else x.arg.0

-- the same, by a list of the offsets
abbrev pub operand_at : List ℕ → List ℕ → InstructionInfo → ℕ
operand_at starts offsets x = if is_jump x.instr then slice_index offsets (named_place starts x) else x.arg.0

-- each instruction in its width
abbrev pub written_units : (InstructionInfo → ℕ) → List InstructionInfo → List ℕ → List CodeUnit
written_units operand [] ws = []
written_units operand (x ∷ xs) [] = []
written_units operand (x ∷ xs) (w ∷ ws) = units_of x.instr (operand x) w ++ written_units operand xs ws

-- the location of each unit: that of its instruction
abbrev pub unit_locations : List InstructionInfo → List ℕ → List SourceLocation
unit_locations [] ws = []
unit_locations (x ∷ xs) [] = []
unit_locations (x ∷ xs) (w ∷ ws) = replicate w x.location ++ unit_locations xs ws

-- an instruction with its whole operand
pub record Decoded : Type 0 where
  pub op : Instruction
  pub operand : ℕ

-- the instructions of a list of units; prefixes at its end are none
abbrev pub decode : (high : ℕ) → List CodeUnit → List Decoded
decode high [] = []
decode high (u ∷ us) =
    let operand : ℕ = (high * 256 + u.arg) % 2 ^ 32 in
    if is_prefix u.op then decode operand us else (record { op = u.op; operand = operand } ∷ decode 0 us)

-- an instruction as it is written
abbrev pub reads : (InstructionInfo → ℕ) → InstructionInfo → Decoded
reads operand x = record { op = x.instr; operand = operand x }

-- the units and locations of a code, in the least widths; the units decode to the instructions in order
pub record IsAssembled (starts : List ℕ) (items : List InstructionInfo) (units : List CodeUnit) (locations : List SourceLocation) : Type 0 where
  pub widths : List ℕ
  pub least : Least (needs_of starts items) widths
  pub units_are : units ≡ written_units (operand_in starts widths) items widths
  pub locations_are : locations ≡ unit_locations items widths
  pub decodes : decode 0 units ≡ map (reads (operand_in starts widths)) items

-- operands are below 2 ^ 32
abbrev pub InRange : List InstructionInfo → Type 0
InRange items = All (λ (x : InstructionInfo). x.arg.0 < 2 ^ 32) items
