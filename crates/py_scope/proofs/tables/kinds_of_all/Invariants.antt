use Rattle.std.proofs.Common.{◌≡◌, take}
use Rattle.py_scope.specs.Making.{all_kinds}
use Rattle.py_scope.proofs.tables.kinds_of_all.Given as goal

abbrev pub invariant-loop-scope : goal.invariant-loop-scope
invariant-loop-scope l = l.all.items ≡ take l.scope (all_kinds l.rows 0 l.rows)
