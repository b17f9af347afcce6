-- What unpacking makes of what packing wrote.
use Rattle.std.specs.Prelude.{◌≡◌, ℕ, ◌<◌, ◌^◌, List, length}
use Rattle.py_bytecode.specs.View.{object}
use Rattle.py_bytecode.specs.declared.code.CodeObject.{CodeObject}
use Rattle.py_run.specs.Runs.{IsSound}
use Rattle.py_run.specs.Statuses.{IsCodeOf, IsReported, code_text, due}
use Rattle.py_run.specs.Words.{Compilation, Compile, Pack, Unpack}

-- unpacking a file is not refused, and gives this listing
pub record Unpacks (file listing : List ℕ) : Type 0 where
  pub sound : IsSound (due Unpack file)
  pub same : (code : CodeObject) → IsCodeOf (due Unpack file) code → code_text Unpack (object code) ≡ listing

-- rows are compiled to one code and packed as another, both of which are due: where the file has fewer than 2^26 bytes,
-- unpacking it gives the listing of the first
abbrev pub UnpackUndoesPack : Type 0
UnpackUndoesPack =
    (c : Compilation) (rows : List ℕ) (compiled packed : CodeObject) → IsCodeOf (due (Compile c) rows) compiled → IsCodeOf (due (Pack c) rows) packed → IsReported (Pack c) (object packed)
    → length (code_text (Pack c) (object packed)) < 2 ^ 26 → Unpacks (code_text (Pack c) (object packed)) (code_text (Compile c) (object compiled))
