use Rattle.std.proofs.Common.{◌≡◌}
use Rattle.py_step_machine.specs.State.{state_of}
use Rattle.py_step_machine.specs.Does.{pop_cells}
use Rattle.py_step_machine.proofs.machine.Machine.pop_cells.Given as goal

abbrev pub invariant-loop-left : goal.invariant-loop-left
invariant-loop-left l = pop_cells l.left (state_of l.self) ≡ pop_cells l.count (state_of l.initial.self)

abbrev pub decreases-loop-left : goal.decreases-loop-left
decreases-loop-left l = l.left
