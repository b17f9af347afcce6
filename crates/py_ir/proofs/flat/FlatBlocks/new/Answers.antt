use Rattle.std.proofs.Common.{ap, sym, subst, ◌∙◌, [], ◌++◌, ◌∷◌}
use Rattle.py_ir.specs.Spans.{Follows, unplaced_span}
use Rattle.py_ir.proofs.BlockPlacementLemmas.{one_follows}
use Rattle.py_ir.proofs.flat.FlatBlocks.new.Goals as goal

pub invariant_of-result : goal.invariant_of-result
invariant_of-result c =
    subst (λ xs. Follows xs c.push.new.self.items 0) (sym c.new.ensures.items)
    (subst (λ ss. Follows [] ss 0) (sym (c.in_ok-push.ensures.items ∙ ap (λ ss. ss ++ unplaced_span ∷ []) c.new-spans.ensures.items)) one_follows)
