-- The format of rows and the reader say the same.
use Rattle.std.specs.Prelude.{◌≡◌, ℕ, List}
use Rattle.py_rows.specs.Rows as reader
use Rattle.py_rows_format.specs.Rows as format

-- the same tree, or the same error, of every row of bytes
abbrev pub FormatIsRead : Type 0
FormatIsRead = (bytes : List ℕ) → format.rows_tree bytes ≡ reader.rows_tree bytes
