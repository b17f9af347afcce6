use Rattle.std.proofs.Common.{◌≡◌, None, take}
use Rattle.py_scope.specs.Lifts.{IsLifted, first_refusal, lifts}
use Rattle.py_scope.proofs.lifts.lift_all.Given as goal

abbrev pub invariant-loop-scope : goal.invariant-loop-scope
invariant-loop-scope l = record {
  lifted : IsLifted l.fn.rows.items (lifts l.fn.rows.items (take l.scope-index l.order)) l.rows.items;
  allowed : first_refusal l.fn.rows.items (lifts l.fn.rows.items (take l.scope-index l.order)) ≡ None;
}
