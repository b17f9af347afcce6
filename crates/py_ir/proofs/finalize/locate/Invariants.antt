use Rattle.std.proofs.Common.{◌<◌, ◌≤◌, ℕ, length, get_or}
use Rattle.py_ir.proofs.finalize.locate.Given as goal

abbrev pub invariant-loop-k : goal.invariant-loop-k
invariant-loop-k l = record {
  within : l.found < length l.chain;
  here : get_or l.starts (get_or l.chain l.found 0) 0 ≤ l.place;
  after : (m : ℕ) → l.found < m → m < l.k → l.place < get_or l.starts (get_or l.chain m 0) 0;
}
