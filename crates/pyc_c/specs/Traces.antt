-- What C gets of the run of a code in a file.
use Rattle.std.specs.Prelude.{◌≡◌, ◌<◌, ℕ, List, [], ◌++◌, drop, length, Option, None, option_map, IsSomeAnd, string_bytes, if◌then◌else◌}
use Rattle.std.specs.Str.{is_utf8}
use Rattle.py_answers.specs.Scripts.{script_in}
use Rattle.py_run.specs.declared.report.Status.{Status}
use Rattle.py_run.specs.declared.report.Status.TheVariants as status
use Rattle.py_trace.specs.declared.report.Due.{Due}
use Rattle.py_trace.specs.declared.report.Due.TheVariants as due
use Rattle.py_trace.specs.Dues.{IsDue}
use Rattle.py_trace.specs.Words.{Asked}

-- what C asks for: the run over a script of the code at the end of a path; nothing where the bytes are no script
abbrev pub asked_by : (script places : List ℕ) → Option Asked
asked_by script places = if is_utf8 script then option_map (λ answers. record { script = answers; path = places }) (script_in script) else None

-- the status of what is due, and its bytes
abbrev pub due_status : Due → Status
due_status (due.Lines lines) = status.Done
due_status due.Usage = status.Usage
due_status (due.Input line) = status.Input

abbrev pub due_bytes : Due → List ℕ
due_bytes (due.Lines lines) = string_bytes lines
due_bytes due.Usage = []
due_bytes (due.Input line) = string_bytes line

-- a text that is due for a file, with this status
abbrev pub IsTraceOf : Asked → (file : List ℕ) → Status → (text : List ℕ) → Type 0
IsTraceOf asked file s text = (d : Due) × IsDue asked file d × (due_status d ≡ s) × (due_bytes d ≡ text)

-- what is due for a file is longer than the room
abbrev pub IsLongTrace : (room : ℕ) → Asked → (file : List ℕ) → Type 0
IsLongTrace room asked file = (d : Due) × IsDue asked file d × (room < length (due_bytes d))

-- what is written with each status
abbrev pub WritesTrace : Status → (room : ℕ) → Option Asked → (file text : List ℕ) → Type 0
WritesTrace status.Done room asked file text = IsSomeAnd asked (λ a. IsTraceOf a file status.Done text)
WritesTrace status.Usage room asked file text = (asked ≡ None) × (text ≡ [])
WritesTrace status.Input room asked file text = IsSomeAnd asked (λ a. IsTraceOf a file status.Input text)
WritesTrace status.WriteFault room asked file text = (text ≡ []) × IsSomeAnd asked (λ a. IsLongTrace room a file)
WritesTrace status.Memory room asked file text = text ≡ []
WritesTrace s room asked file text = ⊥

-- how it ended, and what it did to the text: what it writes stands at the front, and the rest is as it was
pub record IsTraced (asked : Option Asked) (file : List ℕ) (s : Status) (count : ℕ) (before after : List ℕ) : Type 0 where
  pub text : List ℕ
  pub writes : WritesTrace s (length before) asked file text
  pub counted : count ≡ length text
  pub put : after ≡ text ++ drop count before
