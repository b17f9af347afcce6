use Rattle.std.proofs.Common.{◌≡◌, length}
use Rattle.py_emit.specs.States.{rest, state}
use Rattle.py_stmt_parts.specs.Managing.{AllOpen, left_all}
use Rattle.py_stmt_parts.proofs.withs.leave_items.Given as goal

abbrev pub invariant-loop-end : goal.invariant-loop-end
invariant-loop-end l = (rest l.em ≡ rest l.initial.em) × AllOpen l.ends (state l.em) × (left_all l.location l.initial.ends (state l.initial.em) ≡ left_all l.location l.ends (state l.em))

abbrev pub decreases-loop-end : goal.decreases-loop-end
decreases-loop-end l = length l.ends
