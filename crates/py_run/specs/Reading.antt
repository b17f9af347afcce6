-- What many reads of a source do to its count of faults, and take of its bytes.
use Rattle.std.specs.Prelude.{◌≡◌, ℕ, ◌≤◌, ◌^◌, Bool, false, IsTrue, List, length, Option, Result, Ok, Err}
use Rattle.std.specs.Io.KnownBytes.{Consumes}
use Rattle.py_run.specs.declared.reading.ReadError.{ReadError}
use Rattle.py_run.specs.declared.reading.ReadError.TheVariants.{TooLong, Failed, OutOfMemory}

-- a source that counts failed calls alone keeps its count, but where the answer is that a read failed
abbrev pub ReadsStill : {A : Type 0} → Bool → ℕ → ℕ → Result A ReadError → Type 0
ReadsStill alone before now (Ok x) = IsTrue alone → now ≡ before
ReadsStill alone before now (Err TooLong) = IsTrue alone → now ≡ before
ReadsStill alone before now (Err OutOfMemory) = IsTrue alone → now ≡ before
ReadsStill alone before now (Err Failed) = Unit {0}

-- of known bytes 2^26 are taken at most, from the front; where it is so many, a source that had not ended has not ended: no read came after them, where each that gives no byte ends the source
abbrev pub TakesFew : Option (List ℕ) → Option (List ℕ) → (ended_before ended_now : Bool) → Type 0
TakesFew before now ended_before ended_now = (bytes : List ℕ) × Consumes before now bytes × (length bytes ≤ 2 ^ 26) × (length bytes ≡ 2 ^ 26 → ended_before ≡ false → ended_now ≡ false)
