-- Values and cells taken one at a time.
use Rattle.std.proofs.Common.{◌≡◌, ◌<◌, ◌-◌, ℕ, suc, List, [], ◌∷◌, ◌++◌, refl, ap, ◌∙◌, arith}
use Rattle.std.specs.Prelude.{Ok, reverse}
use Rattle.std.proofs.lemmas.List.{reverse-append}
use Rattle.py_bytecode.specs.Values.{Value}
use Rattle.py_answers.specs.declared.trace.StepValue.{StepValue}
use Rattle.py_answers.specs.Told.{Known, value_of, values_of}
use Rattle.py_step_machine.specs.declared.held.Stop.{Stop}
use Rattle.py_step_machine.specs.State.{State, Did, ◌>>=◌, Halts}
use Rattle.py_step_machine.specs.Does.{pop_cell_tuple, pop_cells, pop_value, pop_values}
use Rattle.py_step_machine.proofs.ProgramStopLemmas.{halts_on, halts_same}

-- one operand more is the first, once they are turned round
pub taken_value_turned : (xs : List StepValue) (x : StepValue) → values_of (reverse (xs ++ x ∷ [])) ≡ value_of x ∷ values_of (reverse xs)
taken_value_turned xs x = ap values_of (reverse-append xs (x ∷ []))

pub values_joined : (a b : List StepValue) → values_of (a ++ b) ≡ values_of a ++ values_of b
values_joined [] b = refl
values_joined (x ∷ a) b = ap (λ l. value_of x ∷ l) (values_joined a b)

taken_value_one_less : (n : ℕ) → 0 < n → n ≡ suc (n - 1)
taken_value_one_less n h = omega (arith, h)

-- ---- values

module _ (n : ℕ) (h : 0 < n) (xs : List (Value Known)) (s : State) where
  abbrev rest_values : Value Known × State → Did (List (Value Known))
  rest_values x = pop_values (n - 1) (x.0 ∷ xs) x.1

  first_value : (m : ℕ) → pop_values (suc m) xs s ≡ (pop_value s >>= (λ x. pop_values m (x.0 ∷ xs) x.1))
  unfolding pop_values
  first_value m = refl

  one_value : pop_values n xs s ≡ (pop_value s >>= rest_values)
  one_value = ap (λ m. pop_values m xs s) (taken_value_one_less n h) ∙ first_value (n - 1)

  pub taken_value_taken : (s1 : State) (v : Value Known) → pop_value s ≡ Ok (v, s1) → pop_values n xs s ≡ pop_values (n - 1) (v ∷ xs) s1
  taken_value_taken s1 v e = one_value ∙ ap (λ d. d >>= rest_values) e

  pub taken_halts : (s1 : State) (e : Stop) → Halts e s1 (pop_value s) → Halts e s1 (pop_values n xs s)
  taken_halts s1 e f = halts_same e s1 (pop_value s >>= rest_values) (pop_values n xs s) one_value (halts_on e s1 (pop_value s) rest_values f)

pub all_taken : (n : ℕ) → n ≡ 0 → (xs : List (Value Known)) (s : State) → pop_values n xs s ≡ Ok (xs, s)
unfolding pop_values
all_taken n e xs s = ap (λ m. pop_values m xs s) e

-- ---- cells

module _ (n : ℕ) (h : 0 < n) (s : State) where
  abbrev rest_cells : Unit {0} × State → Did (Unit {0})
  rest_cells u = pop_cells (n - 1) u.1

  first_cells : (m : ℕ) → pop_cells (suc m) s ≡ (pop_cell_tuple s >>= (λ u. pop_cells m u.1))
  unfolding pop_cells
  first_cells m = refl

  one_tuple : pop_cells n s ≡ (pop_cell_tuple s >>= rest_cells)
  one_tuple = ap (λ m. pop_cells m s) (taken_value_one_less n h) ∙ first_cells (n - 1)

  pub cells_taken : (s1 : State) (u : Unit {0}) → pop_cell_tuple s ≡ Ok (u, s1) → pop_cells n s ≡ pop_cells (n - 1) s1
  cells_taken s1 u e = one_tuple ∙ ap (λ d. d >>= rest_cells) e

  pub cells_halt : (s1 : State) (e : Stop) → Halts e s1 (pop_cell_tuple s) → Halts e s1 (pop_cells n s)
  cells_halt s1 e f = halts_same e s1 (pop_cell_tuple s >>= rest_cells) (pop_cells n s) one_tuple (halts_on e s1 (pop_cell_tuple s) rest_cells f)

pub all_cells : (n : ℕ) → n ≡ 0 → (s : State) → pop_cells n s ≡ Ok (tt, s)
unfolding pop_cells
all_cells n e s = ap (λ m. pop_cells m s) e
