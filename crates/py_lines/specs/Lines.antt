-- The lines that say why rows have no listing.
use Rattle.std.specs.Prelude.{ℕ, List, [], ◌++◌, Option, Some, None, codes, decimal}
use Rattle.py_base.specs.Messages.{message}
use Rattle.py_base.specs.declared.location.SourceLocation.{SourceLocation}
use Rattle.py_rows_fields.specs.declared.error.RowsError.{RowsError}
use Rattle.py_rows_fields.specs.declared.error.RowsError.TheVariants.{NotJson, NotRows, WrongRow, WideInteger, LaterRow, WrongKind, NamedTwice, TooDeep, NoMod, NotNamed, OutOfMemory}
use Rattle.py_meaning.specs.ExprFaults.{Fault}

abbrev row_text : ℕ → List ℕ → List ℕ
row_text n text = codes "row " ++ decimal n ++ codes ": " ++ text

-- what is wrong with the rows
abbrev pub rows_text : RowsError → List ℕ
rows_text NotJson = codes "not JSON"
rows_text NotRows = codes "not rows"
rows_text (WrongRow n) = row_text n (codes "wrong form")
rows_text (WideInteger n) = row_text n (codes "integer too wide")
rows_text (LaterRow n) = row_text n (codes "later row")
rows_text (WrongKind n) = row_text n (codes "wrong kind")
rows_text (NamedTwice n) = row_text n (codes "named twice")
rows_text (TooDeep n) = row_text n (codes "too deep")
rows_text NoMod = codes "no module"
rows_text (NotNamed n) = row_text n (codes "not named")
rows_text OutOfMemory = []

-- the line of an input that is at fault
abbrev pub input_line : List ℕ → List ℕ
input_line text = codes "input: " ++ text ++ codes "\n"

-- where a fault stands, as row and column
abbrev pub place_text : Option SourceLocation → List ℕ
place_text None = codes "-:-"
place_text (Some at) = decimal at.row ++ codes ":" ++ decimal at.column

-- the line of a fault: where it stands, and what it is
abbrev pub refusal_line : Fault → List ℕ
refusal_line f = place_text f.location ++ codes " " ++ message f.error ++ codes "\n"
