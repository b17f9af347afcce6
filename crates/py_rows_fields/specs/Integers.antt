-- An integer in decimal digits, after a minus or not.
use Rattle.std.specs.Prelude.{ℕ, ◌^◌, ℤ, nat_lt, length, drop, Bool, ◌&&◌, List, Result, Ok, Err, if◌then◌else◌}
use Rattle.std.specs.Char.{is_ascii_digit}
use Rattle.std.specs.List.{list_all}
use Rattle.std.specs.Int.Signed.{mag}
use Rattle.std.specs.Str.Parse.{starts_with_minus, signed_digits_value}
use Rattle.py_rows_fields.specs.declared.error.RowsError.{RowsError}
use Rattle.py_rows_fields.specs.declared.error.RowsError.TheVariants.{WrongRow, WideInteger}

abbrev pub is_digits : List ℕ → Bool
is_digits ds = nat_lt 0 (length ds) && list_all is_ascii_digit ds

abbrev pub integer_form : List ℕ → Bool
integer_form bs = is_digits (if starts_with_minus bs then drop 1 bs else bs)

abbrev pub fitted_integer : ℕ → ℤ → Result ℤ RowsError
fitted_integer n z = if nat_lt (mag z) (2 ^ 127) then Ok z else Err (WideInteger n)

-- the integer that a text of row n spells, where it fits 128 bits
abbrev pub integer_at : ℕ → List ℕ → Result ℤ RowsError
integer_at n bs = if integer_form bs then fitted_integer n (signed_digits_value 10 bs) else Err (WrongRow n)
