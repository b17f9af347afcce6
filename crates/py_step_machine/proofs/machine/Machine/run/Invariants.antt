use Rattle.std.proofs.Common.{◌≡◌}
use Rattle.py_bytecode.specs.View.{object}
use Rattle.py_step_machine.specs.State.{state_of}
use Rattle.py_step_machine.specs.Running.{run_steps}
use Rattle.py_step_machine.proofs.machine.Machine.run.Given as goal

abbrev pub invariant-loop-left : goal.invariant-loop-left
invariant-loop-left l = run_steps (object l.code) l.left l.place (state_of l.self) ≡ run_steps (object l.code) l.fuel 0 (state_of l.initial.self)

abbrev pub decreases-loop-left : goal.decreases-loop-left
decreases-loop-left l = l.left
