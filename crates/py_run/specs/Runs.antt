-- What a run does, by the status that it ends with.
use Rattle.std.specs.Prelude.{◌≡◌, ℕ, ◌≤◌, ◌⊎◌, Bool, true, IsTrue, List, [], length, take, Option, Some, None, IsNone, IsSome, IfSome, option_map}
use Rattle.std.specs.Io.KnownBytes.{Keeps, Appends}
use Rattle.py_bytecode.specs.Objects.{Object}
use Rattle.py_bytecode.specs.View.{object}
use Rattle.py_bytecode.specs.declared.code.CodeObject.{CodeObject}
use Rattle.py_verify.specs.Nested.{Flawless}
use Rattle.py_lines.specs.Lines.{input_line, refusal_line}
use Rattle.py_run.specs.declared.report.Report.{Report}
use Rattle.py_run.specs.declared.report.Status.{Status}
use Rattle.py_run.specs.declared.report.Status.TheVariants as status
use Rattle.py_devices.specs.Devices.{Rose}
use Rattle.py_run.specs.Statuses.{Due, Misuse, Misread, Refused, Compiled, Spelled, Told, IsReported, code_text, due_of, flaw_text, usage_line}
use Rattle.py_run.specs.Words.{Command, Compile, Pack, Step, Unpack, Names, Sample, reads_input, words_form}

-- ---- the status

-- the tree that rows are is compiled or reported on
abbrev pub TakesTree : Option Command → Type 0
TakesTree None = ⊥
TakesTree (Some (Compile c)) = Unit {0}
TakesTree (Some (Pack c)) = Unit {0}
TakesTree (Some (Step c script)) = Unit {0}
TakesTree (Some Unpack) = ⊥
TakesTree (Some Names) = Unit {0}
TakesTree (Some (Sample count level)) = ⊥

-- usage is where the words have not their form, and a refusal where they ask for something of rows; a fault of the input, or of a read, is where there is input
abbrev pub FitsForm : Status → Option Command → Type 0
FitsForm status.Done form = IsSome form
FitsForm status.Refused form = TakesTree form
FitsForm status.Usage form = form ≡ None
FitsForm status.Input form = reads_input form ≡ true
FitsForm status.ReadFault form = reads_input form ≡ true
FitsForm status.WriteFault form = Unit {0}
FitsForm status.Memory form = IsSome form

-- nothing is wrong: a text is due
abbrev pub IsSound : Due → Type 0
IsSound Misuse = ⊥
IsSound (Misread text) = ⊥
IsSound (Refused f) = ⊥
IsSound (Compiled c t) = Unit {0}
IsSound (Spelled bytes o) = Flawless o
IsSound (Told text) = Unit {0}

-- the tree is refused
abbrev pub IsRefused : Due → Type 0
IsRefused (Refused f) = Unit {0}
IsRefused d = ⊥

-- the input is at fault
abbrev pub IsMisread : Due → Type 0
IsMisread (Misread text) = Unit {0}
IsMisread (Spelled bytes o) = ¬ Flawless o
IsMisread d = ⊥

-- what is due has that status, or a read or a write failed, or memory ran out
abbrev pub IsDue : Status → Due → Type 0
IsDue status.Done d = IsSound d
IsDue status.Refused d = IsRefused d
IsDue status.Usage d = d ≡ Misuse
IsDue status.Input d = IsMisread d
IsDue status.ReadFault d = Unit {0}
IsDue status.WriteFault d = Unit {0}
IsDue status.Memory d = Unit {0}

-- a code is reported with Done, and with a failed write where a text of it was begun; a report on names reports none
abbrev pub Reports : Status → Option Command → Option CodeObject → Type 0
Reports status.Done (Some Names) code = IsNone code
Reports status.Done form code = IsSome code
Reports status.WriteFault form code = Unit {0}
Reports s form code = IsNone code

abbrev pub IsOfForm : Option Command → Object → Type 0
IsOfForm None o = ⊥
IsOfForm (Some c) o = IsReported c o

-- ---- where something is written: a text on the sink of texts, or a line on that of errors

pub data Written : Type 0 where
  Text : Written
  Line : Written
  Nothing : Written
  -- one of the two, the bytes of the source not being told
  Either : Written

abbrev pub told_side : Option Due → Written
told_side None = Either
told_side (Some (Told text)) = Text
told_side (Some d) = Line

-- with a code it is a text. Without one it is a line, but for reports on names, which have no code
abbrev pub side : Option Command → Option CodeObject → Option Due → Written
side form (Some code) d = Text
side (Some Names) None d = told_side d
side form None d = Line

abbrev pub side_of : Status → Written → Written
side_of status.Done begun = Text
side_of status.Refused begun = Line
side_of status.Usage begun = Line
side_of status.Input begun = Line
side_of status.ReadFault begun = Nothing
side_of status.WriteFault begun = begun
side_of status.Memory begun = Nothing

abbrev pub written_sides : List (List ℕ) → Option (List ℕ) → Report → Written
written_sides words left r = side_of r.status (side (words_form words) r.code (due_of words left))

-- ---- what is written

abbrev pub told_text : Due → List ℕ
told_text (Told text) = text
told_text d = []

-- the text: that of the code that is reported, or the one that is due without a code
abbrev pub text_by : Option Command → Option CodeObject → Option Due → Option (List ℕ)
text_by None code d = None
text_by (Some c) None d = option_map told_text d
text_by (Some c) (Some code) d = Some (code_text c (object code))

abbrev pub text_of : List (List ℕ) → Option (List ℕ) → Option CodeObject → Option (List ℕ)
text_of words left code = text_by (words_form words) code (due_of words left)

-- the line
abbrev pub line_for : Due → List ℕ
line_for Misuse = usage_line
line_for (Misread text) = input_line text
line_for (Refused f) = refusal_line f
line_for (Compiled c t) = []
line_for (Spelled bytes o) = input_line flaw_text
line_for (Told text) = []

abbrev pub line_of : List (List ℕ) → Option (List ℕ) → Option (List ℕ)
line_of words left = option_map line_for (due_of words left)

-- a front of the text
abbrev pub AppendsFront : Option (List ℕ) → Option (List ℕ) → List ℕ → Type 0
AppendsFront old new text = (n : ℕ) × (n ≤ length text) × Appends old new (take n text)

-- all of it, or a front of it where a write failed
abbrev pub Gets : Status → Option (List ℕ) → Option (List ℕ) → Option (List ℕ) → Type 0
Gets status.WriteFault text old new = IfSome text (AppendsFront old new)
Gets s text old new = IfSome text (Appends old new)

-- the sink of texts gets the text
abbrev pub OutGets : Written → Status → (text old new : Option (List ℕ)) → Type 0
OutGets Text s text old new = Gets s text old new
OutGets Line s text old new = Keeps old new
OutGets Nothing s text old new = Keeps old new
OutGets Either s text old new = Unit {0}

-- the sink of errors gets the line
abbrev pub ErrGets : Written → Status → (line old new : Option (List ℕ)) → Type 0
ErrGets Text s line old new = Keeps old new
ErrGets Line s line old new = Gets s line old new
ErrGets Nothing s line old new = Keeps old new
ErrGets Either s line old new = Unit {0}

-- no text, or no line, was begun
abbrev pub IsTextless : Written → Type 0
IsTextless Text = ⊥
IsTextless Line = Unit {0}
IsTextless Nothing = Unit {0}
IsTextless Either = ⊥

abbrev pub IsLineless : Written → Type 0
IsLineless Text = Unit {0}
IsLineless Line = ⊥
IsLineless Nothing = Unit {0}
IsLineless Either = ⊥

-- ---- failed calls

-- a failed read has raised the count
abbrev pub ReadCause : Status → (before now : ℕ) → Type 0
ReadCause status.ReadFault before now = Rose before now
ReadCause s before now = Unit {0}

-- a failed write has raised the count of the sink that was written on
abbrev pub RoseOn : Written → (out_before out_now err_before err_now : ℕ) → Type 0
RoseOn Text out_before out_now err_before err_now = Rose out_before out_now
RoseOn Line out_before out_now err_before err_now = Rose err_before err_now
RoseOn Nothing out_before out_now err_before err_now = ⊥
RoseOn Either out_before out_now err_before err_now = Rose out_before out_now ⊎ Rose err_before err_now

abbrev pub WriteCause : Status → Written → (out_before out_now err_before err_now : ℕ) → Type 0
WriteCause status.WriteFault w out_before out_now err_before err_now = RoseOn w out_before out_now err_before err_now
WriteCause s w out_before out_now err_before err_now = Unit {0}

-- with any other status no call failed: a source or a sink that counts failed calls alone has kept its count
abbrev pub NoReadFailed : Status → Bool → (before now : ℕ) → Type 0
NoReadFailed status.ReadFault alone before now = Unit {0}
NoReadFailed s alone before now = IsTrue alone → now ≡ before

abbrev pub NoWriteFailed : Status → Bool → (before now : ℕ) → Type 0
NoWriteFailed status.WriteFault alone before now = Unit {0}
NoWriteFailed s alone before now = IsTrue alone → now ≡ before
