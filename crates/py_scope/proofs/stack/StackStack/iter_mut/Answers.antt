use Rattle.std.proofs.Common.{ℕ, List, length, refl, sym, ap, ◌∙◌}
use Rattle.std.specs.List.{refill}
use Rattle.py_scope.proofs.stack.StackStack.iter_mut.Goals as goal

pub returns : goal.returns
returns g c = (
  (
    sym c.iter_mut.ensures.iter_mut_name,
    λ w.
        let v = c.self.inside.items in
        ap (λ (n : ℕ). refill n v.items w) (v.ok.0 ∙ ap length c.self.view_is) ∙ ap (λ (xs : List g.row.T.Denot). refill (length c.args.self.now) xs w) c.self.view_is,
  ),
  record {
    writes_back = tt;
    rest = c.iter_mut.ensures.rest ∙ c.as_mut_slice.ensures.value ∙ c.self.view_is;
    runs = c.iter_mut.ensures.runs;
  },
)
