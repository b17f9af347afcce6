-- The values of an answer put on a stack one at a time.
use Rattle.std.proofs.Common.{◌≡◌, ◌<◌, ◌≤◌, ◌+◌, ◌-◌, ℕ, suc, List, [], ◌∷◌, Option, Some, None, refl, sym, ap, ◌∙◌, arith, add-one}
use Rattle.std.specs.Prelude.{unwrap_or}
use Rattle.py_bytecode.specs.Values.{Value, Given, Entry, It, given_values}
use Rattle.py_bytecode.specs.Machine.{push, stack_of}
use Rattle.py_answers.specs.Told.{Known}
use Rattle.py_answers.specs.Log.{counted_by}

-- how many values an answer gives
pub push_counted : (k : Option ℕ) (n : ℕ) → counted_by k n ≡ given_values (unwrap_or k 0) n 0
push_counted None n = refl
push_counted (Some k) n = refl

-- the values of an answer from one on
abbrev pub rest_given : (count answer from : ℕ) → List (Value Known)
rest_given count answer from = given_values (count - from) answer from

first_given : (count answer from : ℕ) → from < count → rest_given count answer from ≡ Given answer from ∷ rest_given count answer (from + 1)
first_given count answer from h =
    let e : count - from ≡ suc (count - (from + 1)) = omega (arith, h) in
    ap (λ n. given_values n answer from) e ∙ ap (λ k. Given answer from ∷ given_values (count - (from + 1)) answer k) (sym (add-one from))

none_given : (count answer from : ℕ) → count ≤ from → rest_given count answer from ≡ []
none_given count answer from h = let e : count - from ≡ 0 = omega (arith, h) in ap (λ n. given_values n answer from) e

push_all_given : (count answer : ℕ) → rest_given count answer 0 ≡ given_values count answer 0
push_all_given count answer = let e : count - 0 ≡ count = omega arith in ap (λ n. given_values n answer 0) e

module _ (count answer : ℕ) where
  -- pushed from the first to the last
  pub first_to_push : (s : List (Entry Known)) → push (rest_given count answer 0) s ≡ push (given_values count answer 0) s
  first_to_push s = ap (λ l. push l s) (push_all_given count answer)

  pub pushed_on : (from : ℕ) (s : List (Entry Known)) → from < count → push (rest_given count answer from) s ≡ push (rest_given count answer (from + 1)) (It (Given answer from) ∷ s)
  pushed_on from s h = ap (λ l. push l s) (first_given count answer from h)

  pub all_pushed : (from : ℕ) (s : List (Entry Known)) → count ≤ from → push (rest_given count answer from) s ≡ s
  all_pushed from s h = ap (λ l. push l s) (none_given count answer from h)

  -- and from the last to the first
  pub none_stacked : (s : List (Entry Known)) → stack_of (rest_given count answer count) s ≡ s
  none_stacked s = let n : count ≤ count = omega arith in ap (λ l. stack_of l s) (none_given count answer count n)

  pub stacked_on : (from : ℕ) (s : List (Entry Known)) → 0 < from → from ≤ count
      → stack_of (rest_given count answer (from - 1)) s ≡ It (Given answer (from - 1)) ∷ stack_of (rest_given count answer from) s
  stacked_on from s h l =
      let e : from - 1 + 1 ≡ from = omega (arith, h) in
      ap (λ x. stack_of x s) (first_given count answer (from - 1) (omega (arith, h, l)) ∙ ap (λ k. Given answer (from - 1) ∷ rest_given count answer k) e)

  pub all_stacked : (s : List (Entry Known)) → stack_of (rest_given count answer 0) s ≡ stack_of (given_values count answer 0) s
  all_stacked s = ap (λ l. stack_of l s) (push_all_given count answer)
