use Rattle.std.proofs.Common.{◌≡◌, ◌≤◌}
use Rattle.py_bytecode.specs.Machine.{stack_of}
use Rattle.py_step_machine.specs.State.{machine_stack}
use Rattle.py_step_machine.proofs.PushLemmas.{rest_given}
use Rattle.py_step_machine.proofs.parts.push_reversed.Given as goal

-- the values from one on are on top
abbrev pub invariant-loop-index : goal.invariant-loop-index
invariant-loop-index l = record {
  within : l.index ≤ l.count;
  given : machine_stack l.stack ≡ stack_of (rest_given l.count l.answer l.index) (machine_stack l.initial.stack);
}

abbrev pub decreases-loop-index : goal.decreases-loop-index
decreases-loop-index l = l.index
