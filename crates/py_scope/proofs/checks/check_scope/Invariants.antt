use Rattle.std.proofs.Common.{◌≡◌, None, take}
use Rattle.py_scope.specs.Checks.{first_by, wrong_entry}
use Rattle.py_scope.proofs.checks.check_scope.Given as goal

abbrev pub invariant-loop-i : goal.invariant-loop-i
invariant-loop-i l = first_by (wrong_entry l.rows l.scope) (take l.i l.row.entries) ≡ None
