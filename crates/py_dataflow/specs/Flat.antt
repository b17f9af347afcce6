-- One list of instructions, with the place where each block starts.
use Rattle.std.specs.Prelude.{◌≡◌, ℕ, suc, ◌<◌, ◌≤◌, List, length, All, Bool, true, false, Option, Some, None, slice_get, slice_index, if◌then◌else◌}
use Rattle.std.specs.Option.{option_map}
use Rattle.py_bytecode.specs.declared.instruction.Instruction.{Instruction}
use Rattle.py_bytecode.specs.Table.{row_of, is_label}
use Rattle.py_bytecode.specs.Objects.{Object}
use Rattle.py_bytecode.specs.Machine.{Fetched, Nothing}
use Rattle.py_bytecode.specs.Decode.{Tables, instr_of}
use Rattle.py_bytecode.specs.Units.{fetch_of_instr, is_prefix}
use Rattle.py_dataflow.specs.declared.info.InstructionInfo.{InstructionInfo}
use Rattle.py_dataflow.specs.Flow.{flow_at}
use Rattle.py_dataflow.specs.Walks.{Seen}

abbrev pub is_jump : Instruction → Bool
is_jump o = is_label (row_of o).kind

-- the place where the block starts that an instruction names
abbrev pub named_place : List ℕ → InstructionInfo → ℕ
named_place starts x = slice_index starts x.target.0

-- the place to which it jumps, if it is a jump
abbrev pub jump_place : List ℕ → InstructionInfo → Option ℕ
jump_place starts x = if is_jump x.instr then Some (named_place starts x) else None

abbrev pub sees : List ℕ → ℕ → InstructionInfo → Seen ℕ
sees starts place x = record { flow = flow_at x.instr x.arg.0; next = suc place; target = jump_place starts x }

-- what a walk sees at a place
abbrev pub look_at : List ℕ → List InstructionInfo → ℕ → Option (Seen ℕ)
look_at starts items place = option_map (sees starts place) (slice_get items place)

abbrev pub decoded_item : Tables → List ℕ → ℕ → Option InstructionInfo → Fetched Object ℕ
decoded_item t starts place None = Nothing
decoded_item t starts place (Some x) = fetch_of_instr (instr_of t (Some (named_place starts x)) x.instr x.arg.0) (suc place)

-- what the machine finds at a place
abbrev pub fetch_at : Tables → List ℕ → List InstructionInfo → ℕ → Fetched Object ℕ
fetch_at t starts items place = decoded_item t starts place (slice_get items place)

-- an instruction that is no prefix, with a target among so many blocks if it is a jump
pub record IsLinked (blocks : ℕ) (x : InstructionInfo) : Type 0 where
  pub whole : is_prefix x.instr ≡ false
  pub target : is_jump x.instr ≡ true → x.target.0 < blocks

-- a list of instructions, with the place where each block starts
pub record IsCode (starts : List ℕ) (items : List InstructionInfo) : Type 0 where
  pub starts_within : All (λ s. s ≤ length items) starts
  pub linked : All (IsLinked (length starts)) items
