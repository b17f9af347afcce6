use Rattle.std.proofs.Common.{◌≡◌, [], ◌∷◌, sym, inl, inr, ◌∙◌, subst}
use Rattle.py_dataflow.specs.declared.known.Change.{Change}
use Rattle.py_verify.specs.Stepping.{IsListed}
use Rattle.py_verify.proofs.WorklistLemmas.{listed_left, listed_last}
use Rattle.py_verify.proofs.walk.note.Goals as goal

pub returns-in-Ok : goal.returns-in-Ok
returns-in-Ok c =
    let e = c.in-Ok.ensures.items in
    record {
      listed = λ n. subst (λ xs. IsListed xs c.args.unit) (sym e) (listed_last c.args.work.now.items c.args.unit);
      kept = λ k l. subst (λ xs. IsListed xs k) (sym e) (listed_left c.args.work.now.items (c.args.unit ∷ []) k l);
      still = λ n. absurd (elim c.in-Marks.is [
        | inl m ↦ let z : Change.Nothing ≡ Change.Marks = sym n ∙ m in cc
        | inr p ↦ let z : Change.Nothing ≡ Change.Place = sym n ∙ p in cc
      ]);
      memory = tt;
    }
