-- Steps of the loops over names, entries and lines.
use Rattle.std.proofs.Common.{◌≡◌, ℕ, zero, suc, ◌+◌, ◌<◌, List, ◌∷◌, length, get_or, drop, Bool, true, false, ◌&&◌, refl, sym, ap, ◌∙◌, inl, inr, arith, add-one}
use Rattle.std.proofs.Math.Seq.{drop-cons}
use Rattle.std.proofs.lemmas.Bool.{cases_lt}
use Rattle.py_well_formed.specs.declared.lines.Line.{Line}
use Rattle.py_well_formed.specs.Lines.{before}
use Rattle.py_well_formed.specs.Conditions.{loads_cell, loads_cells}

-- what is left of a list begins with its next element
pub drop_step : {A : Type 0} (xs : List A) (i : ℕ) (x : A) → i < length xs → x ≡ get_or xs i x → drop i xs ≡ x ∷ drop (i + 1) xs
drop_step xs i x h e = drop-cons xs i x h ∙ ap (λ y. y ∷ drop (suc i) xs) (sym e) ∙ ap (λ n. x ∷ drop n xs) (sym (add-one i))

step_and_false : (b : Bool) → (b && false) ≡ false
step_and_false true = refl
step_and_false false = refl

-- one line that loads no cell
pub loads_short : (lines : List Line) (i cells entry count : ℕ) → entry < count → loads_cell (before lines i (entry + 4)) cells ≡ false → loads_cells lines i cells count ≡ false
loads_short lines i cells entry zero h e = absurd (omega (arith, h))
loads_short lines i cells entry (suc n) h e = elim (cases_lt entry n) [
  | inl l ↦ ap (λ b. b && loads_cell (before lines i (n + 4)) cells) (loads_short lines i cells entry n l e)
  | inr m ↦ (
      let q : entry ≡ n = omega (arith, h, m) in
      ap (λ b. loads_cells lines i cells n && b) (ap (λ k. loads_cell (before lines i (k + 4)) cells) (sym q) ∙ e) ∙ step_and_false (loads_cells lines i cells n))
]
