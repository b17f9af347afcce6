use Rattle.std.proofs.Common.{◌≡◌, ◌<◌, ◌≤◌, ℕ, Option, None, ◌⊎◌, length, get_or}
use Rattle.py_dataflow.specs.declared.known.KnownState.{KnownState}
use Rattle.py_dataflow.specs.Known.{height_known}
use Rattle.py_dataflow.proofs.walk.greatest.Given as goal

abbrev pub invariant-loop-state : goal.invariant-loop-state
invariant-loop-state l = record {
  above : (k : ℕ) (d : Option KnownState) → k < l.state-index → height_known (get_or l.states k d) ≤ l.greatest;
  attained : (l.greatest ≡ 0) ⊎ ((k : ℕ) × (k < length l.states) × (height_known (get_or l.states k None) ≡ l.greatest));
}
