use Rattle.std.proofs.Common.{arith}
use Rattle.py_listing.proofs.ConstantListLemmas.{joined_next}
use Rattle.py_listing.proofs.constants.+constant_text.Goals as goal

pub push_joined-loop-i-preserved : goal.push_joined-loop-i-preserved
push_joined-loop-i-preserved t c =
    joined_next c.args.elements.now c.loop-i.i c.index-elements-i.result _ _ _ _ (omega arith) c.index-elements-i.is c.loop-i.invariant c.in_ok-push_separator.ensures c.in_ok-push_constant.ensures
