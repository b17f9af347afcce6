-- What C gets of a run.
use Rattle.std.specs.Prelude.{◌≡◌, ◌⊎◌, ◌<◌, ℕ, true, List, [], ◌++◌, drop, length, Option, Some, None, IsSome, IfSome}
use Rattle.py_bytecode.specs.View.{object}
use Rattle.py_bytecode.specs.declared.code.CodeObject.{CodeObject}
use Rattle.py_devices.specs.Memory.{Shelf}
use Rattle.py_run.specs.declared.report.Status.{Status}
use Rattle.py_run.specs.declared.report.Status.TheVariants as status
use Rattle.py_run.specs.Runs.{IsDue, TakesTree, line_for, told_text}
use Rattle.py_run.specs.Statuses.{Due, IsCodeOf, IsReported, code_text, due_of}
use Rattle.py_run.specs.Words.{Command, Compile, Pack, Step, Unpack, Names, Sample, reads_input, words_form}

-- the number of each status
abbrev pub status_number : Status → ℕ
status_number status.Done = 0
status_number status.Refused = 1
status_number status.Usage = 2
status_number status.Input = 3
status_number status.ReadFault = 4
status_number status.WriteFault = 5
status_number status.Memory = 6

-- C may ask for this: the words have no form, or that of the listing or the file of rows, of the listing of a file, or
-- of a report on names
abbrev pub IsOffered : Option Command → Type 0
IsOffered None = Unit {0}
IsOffered (Some (Compile c)) = Unit {0}
IsOffered (Some (Pack c)) = Unit {0}
IsOffered (Some Unpack) = Unit {0}
IsOffered (Some Names) = Unit {0}
IsOffered (Some (Step c script)) = ⊥
IsOffered (Some (Sample count level)) = ⊥

-- a sink that holds nothing yet
abbrev pub empty_shelf : (room : ℕ) → Shelf
empty_shelf room = record { held = []; room = room; faults = 0 }

-- the text that is due: the listing of the code, the file that spells it, or the report, which has no code
abbrev pub IsTextOf : Option Command → Due → (written : List ℕ) → Type 0
IsTextOf None d written = ⊥
IsTextOf (Some Names) d written = written ≡ told_text d
IsTextOf (Some c) d written = (code : CodeObject) × (written ≡ code_text c (object code)) × IsReported c (object code) × IsCodeOf d code

-- the line that is due
abbrev pub IsLine : Due → (written : List ℕ) → Type 0
IsLine d written = written ≡ line_for d

-- what is due is longer than the room
abbrev pub IsTooLong : (room : ℕ) → Option Command → Due → Type 0
IsTooLong room form d = (text : List ℕ) × (room < length text) × (IsTextOf form d text ⊎ IsLine d text)

-- what is written with each status. Memory is read, so no read fails
abbrev pub Writes : Status → (room : ℕ) → Option Command → Due → (written : List ℕ) → Type 0
Writes status.Done room form d written = IsTextOf form d written
Writes status.Refused room form d written = IsLine d written
Writes status.Usage room form d written = IsLine d written
Writes status.Input room form d written = IsLine d written
Writes status.ReadFault room form d written = ⊥
Writes status.WriteFault room form d written = (written ≡ []) × IsTooLong room form d
Writes status.Memory room form d written = written ≡ []

-- what was written with a status, on the sink of texts and on that of errors
abbrev pub written_with : Status → (out err : List ℕ) → List ℕ
written_with status.Done out err = out
written_with status.Refused out err = err
written_with status.Usage out err = err
written_with status.Input out err = err
written_with status.ReadFault out err = []
written_with status.WriteFault out err = []
written_with status.Memory out err = []

-- with wrong words the status is Usage, unless there was no memory or no room
abbrev pub FitsWords : Status → Option Command → Type 0
FitsWords status.Done form = IsSome form
FitsWords status.Refused form = TakesTree form
FitsWords status.Usage form = form ≡ None
FitsWords status.Input form = reads_input form ≡ true
FitsWords status.ReadFault form = reads_input form ≡ true
FitsWords status.WriteFault form = Unit {0}
FitsWords status.Memory form = Unit {0}

-- how a run ended, and what it did to the text: what it writes stands at the front, and the rest is as it was
pub record IsRun (words : List (List ℕ)) (input : List ℕ) (s : Status) (count : ℕ) (before after : List ℕ) : Type 0 where
  pub form : FitsWords s (words_form words)
  -- the status is what the words and the input ask for, unless there was no memory or no room
  pub due : IfSome (due_of words (Some input)) (IsDue s)
  pub text : List ℕ
  pub writes : IfSome (due_of words (Some input)) (λ d. Writes s (length before) (words_form words) d text)
  pub counted : count ≡ length text
  pub put : after ≡ text ++ drop count before

-- the number is that of a status of which this holds
abbrev pub IsNumbered : ℕ → (Status → Type 0) → Type 0
IsNumbered n P = (s : Status) × (n ≡ status_number s) × P s
