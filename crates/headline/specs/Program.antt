-- What a run of the program over rows in memory owes, in the words of the headline.
use Rattle.std.specs.Prelude.{◌≡◌, ℕ, Bool, false, List, [], ◌∷◌, codes}
use Rattle.std.specs.Str.{bytes_eq}
use Rattle.py_run.specs.Statuses.{usage_line}
use Rattle.py_run.specs.declared.report.Status.{Status}
use Rattle.py_run.specs.declared.report.Status.TheVariants as status
use Rattle.headline.specs.Headline.{CompilesTo, IsMisreadWith, IsMisuse, IsRefusedWith}

-- what it owes where it ends with a status and has written a text and a line. No read of rows in memory fails; a write fails where there is no room
abbrev pub RunOwes : (rows mode level path : List ℕ) → Status → (text line : List ℕ) → Type 0
RunOwes rows mode level path status.Done text line = CompilesTo rows mode level path text
RunOwes rows mode level path status.Refused text line = IsRefusedWith rows mode level line
RunOwes rows mode level path status.Usage text line = IsMisuse mode level × (line ≡ usage_line)
RunOwes rows mode level path status.Input text line = IsMisreadWith rows mode level line
RunOwes rows mode level path status.ReadFault text line = ⊥
RunOwes rows mode level path status.WriteFault text line = Unit {0}
RunOwes rows mode level path status.Memory text line = Unit {0}

-- so it does for the words MODE LEVEL PATH; `sample N LEVEL` is another command, and so are fewer and more words
abbrev pub OwesFor : (rows : List ℕ) → (words : List (List ℕ)) → Status → (text line : List ℕ) → Type 0
OwesFor rows (mode ∷ level ∷ path ∷ []) s text line = bytes_eq mode (codes "sample") ≡ false → RunOwes rows mode level path s text line
OwesFor rows words s text line = Unit {0}
