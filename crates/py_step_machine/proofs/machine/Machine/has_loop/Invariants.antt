use Rattle.std.proofs.Common.{◌≡◌, drop}
use Rattle.py_bytecode.specs.Machine.{has_loop}
use Rattle.py_step_machine.specs.State.{machine_blocks}
use Rattle.py_step_machine.proofs.machine.Machine.has_loop.Given as goal

abbrev pub invariant-loop-depth : goal.invariant-loop-depth
invariant-loop-depth l = has_loop (machine_blocks (drop l.depth l.self.blocks)) ≡ has_loop (machine_blocks l.self.blocks)
