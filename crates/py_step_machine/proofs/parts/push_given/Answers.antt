use Rattle.std.proofs.Common.{refl, sym, ◌∙◌}
use Rattle.py_step_machine.specs.State.{machine_stack}
use Rattle.py_step_machine.proofs.PushLemmas.{all_pushed, first_to_push, pushed_on}
use Rattle.py_step_machine.proofs.parts.push_given.Goals as goal

pub loop-index-init : goal.loop-index-init
loop-index-init c = refl

pub loop-index-preserved : goal.loop-index-preserved
loop-index-preserved c =
    rw c.in_ok-push.ensures
    (sym (pushed_on c.args.count c.args.answer c.loop-index.index (machine_stack c.loop-index.stack) c.loop-index-test.true) ∙ c.loop-index.invariant)

pub returns : goal.returns
returns c =
    sym (all_pushed c.args.count c.args.answer c.loop-index.index (machine_stack c.loop-index.stack) c.loop-index-test.false)
    ∙ c.loop-index.invariant
    ∙ first_to_push c.args.count c.args.answer (machine_stack c.args.stack.now)
