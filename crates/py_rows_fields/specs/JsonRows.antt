-- The rows that bytes hold, as JSON.
use Rattle.std.specs.Prelude.{ℕ, List, None, Result, Ok, Err, if◌then◌else◌}
use Rattle.std.specs.Str.{is_utf8}
use Rattle.serde_json.specs.Data.{Data, Items, no_items, item}
use Rattle.serde_json.specs.Read.{read}
use Rattle.serde_json.specs.Find.{as_array}
use Rattle.py_rows_fields.specs.declared.error.RowsError.{RowsError}
use Rattle.py_rows_fields.specs.declared.error.RowsError.TheVariants.{NotJson, NotRows}
use Rattle.py_rows_fields.specs.Gives.{or_fault, ◌>>=◌}

-- the value that the bytes are as JSON, which is text in UTF-8
abbrev pub json_of : List ℕ → Result Data RowsError
json_of bytes = or_fault NotJson (if is_utf8 bytes then read bytes else None)

abbrev pub some_rows : Items → Result Items RowsError
some_rows no_items = Err NotRows
some_rows (item row rows) = Ok (item row rows)

-- the rows are an array that is not empty
abbrev pub rows_in : Data → Result Items RowsError
rows_in d = or_fault NotRows (as_array d) >>= some_rows
