-- What is read at the units of a code, each with its prefixes.
use Rattle.std.specs.Prelude.{◌≡◌, ℕ, suc, ◌+◌, ◌-◌, ◌*◌, ◌%◌, ◌^◌, List, Option, Some, None, drop, slice_get, if◌then◌else◌}
use Rattle.std.specs.Option.{option_map}
use Rattle.py_bytecode.specs.declared.operand.CodeUnit.{CodeUnit}
use Rattle.py_bytecode.specs.Objects.{Object, head}
use Rattle.py_bytecode.specs.Units.{Read, is_prefix, read_from}
use Rattle.py_decode.specs.declared.reading.UnitRead.{UnitRead}

-- an instruction as it is read
abbrev pub read_of : UnitRead → Read
read_of r = record { op = r.instr; operand = r.arg.0; next = r.next }

abbrev pub read_known : Option (Option UnitRead) → Option Read
read_known None = None
read_known (Some None) = None
read_known (Some (Some r)) = Some (read_of r)

-- the instruction that begins at a unit, as a table has it
abbrev pub reading_at : List (Option UnitRead) → ℕ → Option Read
reading_at reads k = read_known (slice_get reads k)

-- the instruction that begins at a unit, which may be a prefix; None outside the code, and where only prefixes are left
abbrev pub read_at : Object → ℕ → Option Read
read_at o unit = read_from 0 unit (drop unit (head o).instructions)

-- the table has what begins at each unit of the code
abbrev pub IsReading : Object → List (Option UnitRead) → Type 0
IsReading o reads = (k : ℕ) → reading_at reads k ≡ read_at o k

-- an instruction whose operand has higher bytes that end at a place
abbrev pub with_high_bytes : (high place : ℕ) → Read → Read
with_high_bytes high place r = record { op = r.op; operand = (high * 256 ^ (r.next - place) + r.operand) % 2 ^ 32; next = r.next }

-- what is read at a unit, from what is read after it
abbrev pub read_ahead : CodeUnit → (place : ℕ) → Option Read → Option Read
read_ahead u place later =
    let operand : ℕ = (0 * 256 + u.arg) % 2 ^ 32 in
    if is_prefix u.op then option_map (with_high_bytes operand (suc place)) later else Some (record { op = u.op; operand = operand; next = suc place })
