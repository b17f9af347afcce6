use Rattle.std.proofs.Common.{◌≡◌, []}
use Rattle.std.specs.Prelude.{reverse}
use Rattle.py_answers.specs.Told.{values_of}
use Rattle.py_step_machine.specs.State.{state_of}
use Rattle.py_step_machine.specs.Does.{pop_values}
use Rattle.py_step_machine.proofs.machine.Machine.pop_values.Given as goal

abbrev pub invariant-loop-left : goal.invariant-loop-left
invariant-loop-left l = pop_values l.left (values_of (reverse l.operands.items)) (state_of l.self) ≡ pop_values l.count [] (state_of l.initial.self)

abbrev pub decreases-loop-left : goal.decreases-loop-left
decreases-loop-left l = l.left
