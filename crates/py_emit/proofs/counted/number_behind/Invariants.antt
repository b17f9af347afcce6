use Rattle.std.proofs.Common.{◌≡◌, ℕ, ◌+◌, ◌-◌}
use Rattle.py_emit.specs.Tables.{Stand, behind}
use Rattle.py_emit.proofs.counted.number_behind.Given as goal

abbrev pub invariant-loop-dropped : goal.invariant-loop-dropped
invariant-loop-dropped g l = record {
  left : (before : ℕ) × Stand l.scopes before (l.count - l.dropped) l.next;
  next : behind l.scopes (l.count - l.dropped) l.next ≡ behind l.scopes l.count l.first;
  steps : l.steps ≡ l.initial.steps + l.dropped;
}
