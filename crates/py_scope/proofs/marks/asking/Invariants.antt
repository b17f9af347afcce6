use Rattle.std.proofs.Common.{◌≡◌, ◌++◌, drop}
use Rattle.py_scope.specs.Outward.{asked_outward}
use Rattle.py_scope.proofs.marks.asking.Given as goal

-- the names so far and those of what is left are all
abbrev pub invariant-loop-i : goal.invariant-loop-i
invariant-loop-i l = l.names.items ++ asked_outward (drop l.i l.entries) ≡ asked_outward l.entries
