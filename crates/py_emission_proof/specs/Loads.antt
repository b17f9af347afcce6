-- How many cells a code loads for the functions that it makes: as many as the scopes of these have free variables.
use Rattle.std.specs.Prelude.{ℕ, zero, suc, ◌+◌, ◌≤◌, ◌≢◌, List, [], ◌∷◌, length}
use Rattle.py_scope.specs.declared.flat.ScopeEntry.{ScopeEntry}
use Rattle.py_control.specs.Agree.{AllOf, form_of, head_of, kids}
use Rattle.py_control.specs.Form.{Scope}
use Rattle.py_emission_parts.specs.Context.{frees_among, symbols_in}

-- how many names these scopes have from outside together, by the symbols of their numbers
abbrev pub loads : List ScopeEntry → List Scope → ℕ
loads entries [] = 0
loads entries (s ∷ ss) = length (frees_among (symbols_in entries (head_of s).number)) + loads entries ss

-- no two have one number
abbrev pub AreNumbered : List Scope → Type 0
AreNumbered [] = Unit {0}
AreNumbered (s ∷ ss) = AllOf (λ t. (head_of t).number ≢ (head_of s).number) ss × AreNumbered ss

-- the scopes that stand directly in it, where they have numbers of their own, have no more than so many free variables together;
-- and so it is for each of them, down to n levels
abbrev pub LoadsUpTo : List ScopeEntry → (most n : ℕ) → Scope → Type 0
LoadsUpTo entries most zero s = Unit {0}
LoadsUpTo entries most (suc n) s = (AreNumbered (kids (form_of s)) → loads entries (kids (form_of s)) ≤ most) × AllOf (LoadsUpTo entries most n) (kids (form_of s))
