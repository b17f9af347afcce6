use Rattle.std.proofs.Common.{take}
use Rattle.py_scope.specs.Marks.{IsSettled, looks}
use Rattle.py_scope.proofs.marks.mark_all.Given as goal

abbrev pub invariant-loop-scope : goal.invariant-loop-scope
invariant-loop-scope l = IsSettled l.fn.rows.items (looks l.fn.rows.items (take l.scope-index l.order)) l.rows.items
