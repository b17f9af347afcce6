-- What a run does, by what is due and by the status that it ends with.
use Rattle.std.specs.Prelude.{◌≡◌, ℕ, ◌≤◌, ◌<◌, ◌^◌, Bool, IsTrue, List, length, take, Option, Some, None, IsNone, IsSome, option_map, codes, Result, Ok, Err, string_bytes}
use Rattle.std.specs.Io.KnownBytes.{Appends, Consumes, IsAtEnd}
use Rattle.py_devices.specs.Devices.{Rose}
use Rattle.py_trace.specs.declared.reading.Stop.{Stop}
use Rattle.py_trace.specs.declared.reading.Stop.TheVariants as stop
use Rattle.py_trace.specs.declared.report.Due.{Due}
use Rattle.py_trace.specs.declared.report.Due.TheVariants as due
use Rattle.py_trace.specs.declared.report.Status.{Status}
use Rattle.py_trace.specs.declared.report.Status.TheVariants as status
use Rattle.py_trace.specs.Dues.{IsDue}
use Rattle.py_trace.specs.Words.{Asked}

-- ---- what is due

-- these bytes were taken of a source: all that it had, or the first 2 ^ 26
pub record Took (before now : Option (List ℕ)) (bytes : List ℕ) : Type 0 where
  pub taken : Consumes before now bytes
  pub few : length bytes ≤ 2 ^ 26
  pub whole : length bytes < 2 ^ 26 → IsAtEnd now

-- where the words ask for nothing it is the line of usage, and else what is due for the bytes that were taken
abbrev pub Owes : Option Asked → (left_before left_now : Option (List ℕ)) → Due → Type 0
Owes None before now d = d ≡ due.Usage
Owes (Some asked) before now d = (bytes : List ℕ) × Took before now bytes × IsDue asked bytes d

-- ---- the status

abbrev pub status_of : Due → Status
status_of (due.Lines lines) = status.Done
status_of due.Usage = status.Usage
status_of (due.Input line) = status.Input

-- it is that of what is due, unless a write failed; where a read failed or memory ran out, nothing is due
abbrev pub HasStatus : Status → Option Due → Type 0
HasStatus status.Done d = option_map status_of d ≡ Some status.Done
HasStatus status.Usage d = option_map status_of d ≡ Some status.Usage
HasStatus status.Input d = option_map status_of d ≡ Some status.Input
HasStatus status.ReadFault d = IsNone d
HasStatus status.WriteFault d = IsSome d
HasStatus status.Memory d = IsNone d

-- ---- what is written

abbrev pub usage_line : List ℕ
usage_line = codes "usage: pyc_trace SCRIPT [PLACE..]\n"

-- on the sink of texts
abbrev pub text_of : Option Due → Option (List ℕ)
text_of None = None
text_of (Some (due.Lines lines)) = Some (string_bytes lines)
text_of (Some due.Usage) = None
text_of (Some (due.Input line)) = None

-- on that of errors
abbrev pub line_of : Option Due → Option (List ℕ)
line_of None = None
line_of (Some (due.Lines lines)) = None
line_of (Some due.Usage) = Some usage_line
line_of (Some (due.Input line)) = Some (string_bytes line)

-- all of it, or a front of it where a write failed
abbrev pub Gets : Status → (old new : Option (List ℕ)) → (text : List ℕ) → Type 0
Gets status.WriteFault old new text = (n : ℕ) × (n ≤ length text) × Appends old new (take n text)
Gets s old new text = Appends old new text

-- ---- failed calls

-- a failed read has raised the count of the source
abbrev pub ReadCause : Status → (before now : ℕ) → Type 0
ReadCause status.ReadFault before now = Rose before now
ReadCause s before now = Unit {0}

-- a failed write has raised the count of the sink that was written on
abbrev pub RoseOn : Option Due → (out_before out_now err_before err_now : ℕ) → Type 0
RoseOn None out_before out_now err_before err_now = ⊥
RoseOn (Some (due.Lines lines)) out_before out_now err_before err_now = Rose out_before out_now
RoseOn (Some due.Usage) out_before out_now err_before err_now = Rose err_before err_now
RoseOn (Some (due.Input line)) out_before out_now err_before err_now = Rose err_before err_now

abbrev pub WriteCause : Status → Option Due → (out_before out_now err_before err_now : ℕ) → Type 0
WriteCause status.WriteFault d out_before out_now err_before err_now = RoseOn d out_before out_now err_before err_now
WriteCause s d out_before out_now err_before err_now = Unit {0}

-- with any other status a source or a sink that counts failed calls alone has kept its count
abbrev pub NoReadFailed : Status → Bool → (before now : ℕ) → Type 0
NoReadFailed status.ReadFault alone before now = Unit {0}
NoReadFailed s alone before now = IsTrue alone → now ≡ before

abbrev pub NoWriteFailed : Status → Bool → (before now : ℕ) → Type 0
NoWriteFailed status.WriteFault alone before now = Unit {0}
NoWriteFailed s alone before now = IsTrue alone → now ≡ before

-- where a read failed the count rose, and else a source that counts failed calls alone keeps its count
abbrev pub StopsRightly : {A : Type 0} → Bool → (before now : ℕ) → Result A Stop → Type 0
StopsRightly alone before now (Ok x) = IsTrue alone → now ≡ before
StopsRightly alone before now (Err stop.OutOfMemory) = IsTrue alone → now ≡ before
StopsRightly alone before now (Err stop.ReadFailed) = Rose before now
