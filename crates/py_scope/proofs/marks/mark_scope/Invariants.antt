use Rattle.std.proofs.Common.{take}
use Rattle.py_scope.specs.Marks.{IsSettled, from_scope}
use Rattle.py_scope.proofs.marks.mark_scope.Given as goal

abbrev pub invariant-loop-name : goal.invariant-loop-name
invariant-loop-name l = IsSettled l.fn.rows.items (from_scope l.fn.scope (take l.name-index l.name-items)) l.rows.items
