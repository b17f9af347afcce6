use Rattle.std.proofs.Common.{◌≡◌, ◌≤◌, ℕ, Some, drop, length}
use Rattle.py_bytecode.specs.Units.{read_from}
use Rattle.py_decode.specs.Reading.{read_known, reading_at}
use Rattle.py_decode.proofs.reading.read_units.Given as goal

abbrev pub invariant-loop-at : goal.invariant-loop-at
invariant-loop-at l = record {
  long : length l.reads.items ≡ length l.units;
  within : l.at ≤ length l.units;
  later : read_known (Some l.later) ≡ read_from 0 l.at (drop l.at l.units);
  read : (k : ℕ) → l.at ≤ k → reading_at l.reads.items k ≡ read_from 0 k (drop k l.units);
}

abbrev pub decreases-loop-at : goal.decreases-loop-at
decreases-loop-at l = l.at
