use Rattle.std.proofs.Common.{◌≡◌, arith}
use Rattle.std.proofs.lemmas.Grind.{common_steps}
use Rattle.py_step_machine.specs.Does.{last_block, seen_last}
use Rattle.py_step_machine.specs.State.{machine_blocks, state_of}
use Rattle.py_step_machine.proofs.PeekLemmas.{peek_last_at, last_seen}
use Rattle.py_step_machine.proofs.machine.Machine.last_reason.Goals as goal

pub returns-in-Some-FinallyHandler : goal.returns-in-Some-FinallyHandler
unfolding last_block
returns-in-Some-FinallyHandler c =
    let m = c.args.self.now in
    let seen : seen_last (machine_blocks m.blocks) (state_of m) ≡ peek_last_at c.below.result (state_of m) = last_seen m.blocks c.below.result (state_of m) c.below.ensures in
    grind (arith, common_steps, seen)

pub returns-in-Some-Loop : goal.returns-in-Some-Loop
unfolding last_block
returns-in-Some-Loop c =
    let m = c.args.self.now in
    let seen : seen_last (machine_blocks m.blocks) (state_of m) ≡ peek_last_at c.below.result (state_of m) = last_seen m.blocks c.below.result (state_of m) c.below.ensures in
    grind (arith, common_steps, seen)
