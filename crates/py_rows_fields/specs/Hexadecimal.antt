-- Bytes in hexadecimal digits.
use Rattle.std.specs.Prelude.{ℕ, List, Result, Ok, Err, if◌then◌else◌}
use Rattle.std.specs.Char.{is_ascii_uppercase}
use Rattle.std.specs.List.{list_any}
use Rattle.hex.specs.Hex.{decode_of}
use Rattle.hex.specs.declared.error.FromHexError.{FromHexError}
use Rattle.py_rows_fields.specs.declared.error.RowsError.{RowsError}
use Rattle.py_rows_fields.specs.declared.error.RowsError.TheVariants.{WrongRow}

abbrev decoded : ℕ → Result (List ℕ) FromHexError → Result (List ℕ) RowsError
decoded n (Ok bytes) = Ok bytes
decoded n (Err e) = Err (WrongRow n)

-- the bytes that a text of row n spells, two digits each and no letter in upper case
abbrev pub bytes_at : ℕ → List ℕ → Result (List ℕ) RowsError
bytes_at n text = if list_any is_ascii_uppercase text then Err (WrongRow n) else decoded n (decode_of text)
