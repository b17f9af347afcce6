-- What is so of each made program.
use Rattle.std.specs.Prelude.{◌≡◌, ℕ, ◌<◌, ◌^◌, []}
use Rattle.py_tree.specs.declared.modules.Mode.{Mode}
use Rattle.py_meaning.specs.Faults.{faults}
use Rattle.py_sample.specs.Sample.{program}

-- nothing is wrong in it, in any mode and at any level
abbrev pub SamplesAreFaultless : Type 0
SamplesAreFaultless = (n : ℕ) (mode : Mode) (level : ℕ) → n < 2 ^ 17 → faults (program n) mode level ≡ []
