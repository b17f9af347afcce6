use Rattle.std.proofs.Common.{◌≡◌, ◌+◌, ◌-◌, ◌*◌, ℕ, List, length, sum}
use Rattle.py_layout.specs.Widths.{AtMost, Chosen, Fits}
use Rattle.py_layout.proofs.widths.settle.Given as goal

abbrev pub invariant-loop-units : goal.invariant-loop-units
invariant-loop-units l = record {
  chosen : Chosen l.needs l.widths;
  least : (others : List ℕ) → Fits l.needs others → AtMost l.widths others;
  room : length l.offsets ≡ length l.widths + 1;
}

abbrev pub decreases-loop-units : goal.decreases-loop-units
decreases-loop-units l = 4 * length l.needs - sum l.widths
