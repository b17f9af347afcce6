-- The instructions of a code in the order of its units, each with its whole operand.
use Rattle.std.specs.Prelude.{ℕ, ◌+◌, ◌-◌, ◌*◌, ◌%◌, ◌^◌, List, [], ◌∷◌, Option, None, slice_get, nat_le, if◌then◌else◌}
use Rattle.py_bytecode.specs.declared.operand.CodeUnit.{CodeUnit}
use Rattle.py_bytecode.specs.Units.{is_prefix}
use Rattle.py_well_formed.specs.declared.lines.Line.{Line}

-- what stands before a unit: the bytes of prefixes, where they begin, and the place of the unit
pub record Ahead : Type 0 where
  pub high : ℕ
  pub start : ℕ
  pub place : ℕ

-- the last four bytes count
abbrev pub operand_with : Ahead → CodeUnit → ℕ
operand_with a u = (a.high * 256 + u.arg) % 2 ^ 32

abbrev pub after : Ahead → CodeUnit → Ahead
after a u = if is_prefix u.op then record { high = operand_with a u; start = a.start; place = a.place + 1 } else record { high = 0; start = a.place + 1; place = a.place + 1 }

abbrev pub with_line : Ahead → CodeUnit → List Line → List Line
with_line a u rest = if is_prefix u.op then rest else record { op = u.op; operand = operand_with a u; unit = a.start } ∷ rest

abbrev pub lines_from : Ahead → List CodeUnit → List Line
lines_from a [] = []
lines_from a (u ∷ us) = with_line a u (lines_from (after a u) us)

abbrev pub lines_of : List CodeUnit → List Line
lines_of units = lines_from (record { high = 0; start = 0; place = 0 }) units

-- the line so many before another
abbrev pub before : List Line → (i back : ℕ) → Option Line
before lines i back = if nat_le back i then slice_get lines (i - back) else None
