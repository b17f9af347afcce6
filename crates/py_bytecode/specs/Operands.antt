-- Bytes of an operand, and how many units it takes.
use Rattle.std.specs.Prelude.{ℕ, ◌/◌, ◌%◌, ◌^◌, nat_le, if◌then◌else◌}

-- byte i; byte 0 is the lowest
abbrev pub byte_of : (i operand : ℕ) → ℕ
byte_of i operand = operand / 256 ^ i % 256

-- as many as the bytes that it needs, and at least one
abbrev pub units_for : ℕ → ℕ
units_for n = if nat_le n 0xff then 1 else (if nat_le n 0xffff then 2 else (if nat_le n 0xff_ffff then 3 else 4))
