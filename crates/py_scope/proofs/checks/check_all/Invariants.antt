use Rattle.std.proofs.Common.{◌≡◌, None, take}
use Rattle.py_scope.specs.Checks.{first_by, wrong_in}
use Rattle.py_scope.proofs.checks.check_all.Given as goal

abbrev pub invariant-loop-scope : goal.invariant-loop-scope
invariant-loop-scope l = first_by (wrong_in l.rows) (take l.scope-index l.order) ≡ None
