-- What is due for what the words ask for and the bytes of an input.
use Rattle.std.specs.Prelude.{◌≡◌, ℕ, ◌<◌, ◌≤◌, ◌^◌, List, ◌++◌, length, Option, Some, None, Result, Ok, Err, codes, decimal, string_bytes}
use Rattle.py_bytecode.specs.Objects.{Object}
use Rattle.py_bytecode.specs.Units.{machine}
use Rattle.py_codefile.specs.declared.error.ReadCodeError.{ReadCodeError}
use Rattle.py_codefile.specs.declared.error.ReadCodeError.TheVariants as bad
use Rattle.py_codefile.specs.Reading.{file_at}
use Rattle.py_answers.specs.declared.answers.Answer.{Answer}
use Rattle.py_answers.specs.Lines.{lines}
use Rattle.py_answers.specs.Scripts.{answers_of}
use Rattle.py_answers.specs.Told.{short}
use Rattle.py_trace.specs.declared.report.Due.{Due}
use Rattle.py_trace.specs.declared.report.Due.TheVariants as due
use Rattle.py_trace.specs.Among.{code_along}
use Rattle.py_trace.specs.Words.{Asked}

-- the lines of the run of a code over a script
abbrev pub trace_text : (script : List Answer) → Object → List ℕ
trace_text script o = lines (short (machine o (answers_of script)))

-- where the first bad field of a file begins
abbrev pub bad_at : ReadCodeError → ℕ
bad_at (bad.Magic at) = at
bad_at (bad.Truncated at) = at
bad_at (bad.BadOpcode at) = at
bad_at (bad.BadTag at) = at
bad_at (bad.BadText at) = at
bad_at (bad.ZeroLocation at) = at
bad_at (bad.TooDeep at) = at
bad_at (bad.Trailing at) = at
bad_at bad.OutOfMemory = 0

abbrev pub file_text : ReadCodeError → List ℕ
file_text e = codes "bad code file at " ++ decimal (bad_at e)

abbrev pub input_line : (text : List ℕ) → List ℕ
input_line text = codes "input: " ++ text ++ codes "\n"

-- these lines
abbrev pub Tells : (text : List ℕ) → Due → Type 0
Tells text (due.Lines lines) = string_bytes lines ≡ text
Tells text due.Usage = ⊥
Tells text (due.Input line) = ⊥

-- the line that says what is wrong with the input
abbrev pub Says : (text : List ℕ) → Due → Type 0
Says text (due.Lines lines) = ⊥
Says text due.Usage = ⊥
Says text (due.Input line) = string_bytes line ≡ input_line text

-- the lines of the code at the end of the path, or the line that says that none is there
abbrev pub ByCode : Asked → Option Object → Due → Type 0
ByCode asked None d = Says (codes "no code at this path") d
ByCode asked (Some o) d = Tells (trace_text asked.script o) d

abbrev pub OfCode : Asked → Object → Due → Type 0
OfCode asked o d = ByCode asked (code_along asked.path o) d

abbrev pub OfFile : Asked → Result Object ReadCodeError → Due → Type 0
OfFile asked (Ok o) d = OfCode asked o d
OfFile asked (Err e) d = Says (file_text e) d

-- fewer than 2 ^ 26 bytes are read as a file
pub record IsDue (asked : Asked) (bytes : List ℕ) (d : Due) : Type 0 where
  pub short : length bytes < 2 ^ 26 → OfFile asked (file_at bytes) d
  pub long : 2 ^ 26 ≤ length bytes → Says (codes "too long") d
