use Rattle.std.proofs.Common.{◌≡◌}
use Rattle.py_bytecode.specs.Machine.{push}
use Rattle.py_step_machine.specs.State.{machine_stack}
use Rattle.py_step_machine.proofs.PushLemmas.{rest_given}
use Rattle.py_step_machine.proofs.parts.push_given.Given as goal

-- the values from one on are still to be pushed
abbrev pub invariant-loop-index : goal.invariant-loop-index
invariant-loop-index l = push (rest_given l.count l.answer l.index) (machine_stack l.stack) ≡ push (rest_given l.count l.answer 0) (machine_stack l.initial.stack)
