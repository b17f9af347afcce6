use Rattle.std.proofs.Common.{◌≡◌, None, take}
use Rattle.py_scope.specs.Marks.{from_scope}
use Rattle.py_scope.specs.Lifts.{IsLifted, first_refusal}
use Rattle.py_scope.proofs.lifts.lift_names.Given as goal

abbrev pub invariant-loop-name : goal.invariant-loop-name
invariant-loop-name l = record {
  lifted : IsLifted l.fn.rows.items (from_scope l.fn.scope (take l.name-index l.names)) l.rows.items;
  allowed : first_refusal l.fn.rows.items (from_scope l.fn.scope (take l.name-index l.names)) ≡ None;
}
