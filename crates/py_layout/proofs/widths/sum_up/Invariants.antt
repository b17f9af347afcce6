use Rattle.std.proofs.Common.{◌≡◌, ◌<◌, ℕ, slice_index}
use Rattle.py_layout.specs.Widths.{offset}
use Rattle.py_layout.proofs.widths.sum_up.Given as goal

abbrev pub invariant-loop-k : goal.invariant-loop-k
invariant-loop-k l = record { units : l.units ≡ offset l.widths l.k; each : (place : ℕ) → place < l.k → slice_index l.offsets place ≡ offset l.widths place }
