-- The machine on a code object: units with their prefixes, from unit 0 with nothing on the stack.
use Rattle.std.specs.Prelude.{ℕ, suc, ◌+◌, ◌*◌, ◌%◌, ◌^◌, List, [], ◌∷◌, length, drop, Bool, true, false, Option, Some, None, nat_lt, if◌then◌else◌}
use Rattle.py_bytecode.specs.declared.instruction.Instruction.{Instruction}
use Rattle.py_bytecode.specs.declared.instruction.Instruction.TheVariants as op
use Rattle.py_bytecode.specs.declared.operand.CodeUnit.{CodeUnit}
use Rattle.py_bytecode.specs.Objects.{Object, head}
use Rattle.py_bytecode.specs.Values.{Answer, Ran}
use Rattle.py_bytecode.specs.Machine.{Instr, Fetched, Found, Nothing, limited_machine, start, fuel}
use Rattle.py_bytecode.specs.Decode.{Tables, tables, instr_of}

-- the unit holds a higher byte of the next one's operand
abbrev pub is_prefix : Instruction → Bool
is_prefix op.ExtendedArg = true
is_prefix _ = false

-- an instruction with its whole operand, and the place after it
pub record Read : Type 0 where
  pub op : Instruction
  pub operand : ℕ
  pub next : ℕ

-- what is read from the units at a place, after prefixes that hold so much; the last four bytes count
abbrev pub read_from : (high at : ℕ) → List CodeUnit → Option Read
read_from high at [] = None
read_from high at (u ∷ us) =
    let operand : ℕ = (high * 256 + u.arg) % 2 ^ 32 in
    if is_prefix u.op then read_from operand (suc at) us else Some (record { op = u.op; operand = operand; next = suc at })

-- a place among so many
abbrev pub place_in : ℕ → ℕ → Option ℕ
place_in count n = if nat_lt n count then Some n else None

abbrev pub fetch_of_instr : {P : Type 0} → Option (Instr Object P) → P → Fetched Object P
fetch_of_instr None next = Nothing
fetch_of_instr (Some i) next = Found i next

abbrev pub fetch_of_read : Tables → (count : ℕ) → Option Read → Fetched Object ℕ
fetch_of_read t count None = Nothing
fetch_of_read t count (Some r) = fetch_of_instr (instr_of t (place_in count r.operand) r.op r.operand) r.next

-- what stands at a unit
abbrev pub fetch_unit : Tables → List CodeUnit → ℕ → Fetched Object ℕ
fetch_unit t units place = fetch_of_read t (length units) (read_from 0 place (drop place units))

-- the run of a code object that a finite list of answers gives
abbrev pub machine : Object → List Answer → Ran Object
machine o answers =
    limited_machine (fetch_unit (tables o) (head o).instructions) (head o).max_stackdepth (fuel (length (head o).instructions) answers) 0 (start answers)
