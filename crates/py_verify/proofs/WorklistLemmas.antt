-- Units on the work list.
use Rattle.std.proofs.Common.{◌≡◌, ℕ, ◌⊎◌, ◌++◌, List, [], ◌∷◌, refl, inl, inr}
use Rattle.py_verify.specs.Stepping.{IsListed}

pub listed_left : (xs ys : List ℕ) (k : ℕ) → IsListed xs k → IsListed (xs ++ ys) k
listed_left [] ys k h = absurd h
listed_left (x ∷ xs) ys k (inl e) = inl e
listed_left (x ∷ xs) ys k (inr h) = inr (listed_left xs ys k h)

pub listed_last : (xs : List ℕ) (k : ℕ) → IsListed (xs ++ k ∷ []) k
listed_last [] k = inl refl
listed_last (x ∷ xs) k = inr (listed_last xs k)

pub listed_split : (xs : List ℕ) (unit k : ℕ) → IsListed (xs ++ unit ∷ []) k → IsListed xs k ⊎ (k ≡ unit)
listed_split [] unit k (inl e) = inr e
listed_split [] unit k (inr h) = absurd h
listed_split (x ∷ xs) unit k (inl e) = inl (inl e)
listed_split (x ∷ xs) unit k (inr h) = elim (listed_split xs unit k h) [
  | inl l ↦ inl (inr l)
  | inr e ↦ inr e
]
