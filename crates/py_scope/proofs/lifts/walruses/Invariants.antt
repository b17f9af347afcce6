use Rattle.std.proofs.Common.{◌≡◌, ◌++◌, drop}
use Rattle.py_scope.specs.Lifts.{walruses}
use Rattle.py_scope.proofs.lifts.walruses.Given as goal

abbrev pub invariant-loop-i : goal.invariant-loop-i
invariant-loop-i l = l.names.items ++ walruses (drop l.i l.entries) ≡ walruses l.entries
