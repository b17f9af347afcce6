use Rattle.std.proofs.Common.{◌≡◌, length}
use Rattle.py_step_machine.specs.Held.{reason_of}
use Rattle.py_step_machine.specs.State.{state_of}
use Rattle.py_step_machine.specs.Leaving.{unwind_run}
use Rattle.py_step_machine.proofs.machine.Machine.unwind.Given as goal

abbrev pub invariant-loop-block : goal.invariant-loop-block
invariant-loop-block l = unwind_run (reason_of l.reason) (state_of l.self) ≡ unwind_run (reason_of l.reason) (state_of l.initial.self)

abbrev pub decreases-loop-block : goal.decreases-loop-block
decreases-loop-block l = length l.self.blocks
