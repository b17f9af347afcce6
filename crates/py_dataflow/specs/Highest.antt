-- The greatest height on a walk, which is found by rounds: from the start, each adds the places that the known ones lead to.
use Rattle.std.specs.Prelude.{ℕ, max, length, List, [], ◌∷◌, ◌++◌, Bool, false, ◌||◌, Option, Some, None, nat_eq, if◌then◌else◌}
use Rattle.std.specs.Fn.{iterate}
use Rattle.std.specs.List.{flat_map}
use Rattle.py_bytecode.specs.declared.operand.CodeUnit.{CodeUnit}
use Rattle.py_bytecode.specs.Decode.{Tables}
use Rattle.py_bytecode.specs.Units.{fetch_unit}
use Rattle.py_dataflow.specs.Walks.{State, state, Seen, seen_instr, falls_to, jumps_to}

-- a place that a walk reaches, and in which state
pub record Known : Type 0 where
  pub place : ℕ
  pub at : State

abbrev pub known_at : ℕ → State → Known
known_at p t = record { place = p; at = t }

abbrev pub jump_targets : Seen ℕ → State → Option ℕ → List Known
jump_targets x t None = []
jump_targets x t (Some q) = known_at q (jumps_to x.flow.branch t) ∷ []

-- where what is seen in a state leads
abbrev pub successors : State → Option (Seen ℕ) → List Known
successors t None = []
successors t (Some x) = (if x.flow.falls then known_at x.next (falls_to x.flow t) ∷ [] else []) ++ jump_targets x t x.target

abbrev pub is_known : ℕ → List Known → Bool
is_known p [] = false
is_known p (k ∷ ks) = nat_eq p k.place || is_known p ks

-- those whose place is not known yet are added
abbrev pub with_new_places : List Known → List Known → List Known
with_new_places ks [] = ks
with_new_places ks (x ∷ xs) = with_new_places (if is_known x.place ks then ks else x ∷ ks) xs

abbrev pub greatest : List Known → ℕ
greatest [] = 0
greatest (k ∷ ks) = max k.at.height (greatest ks)

module _ (look : ℕ → Option (Seen ℕ)) where
  abbrev pub spread : List Known → List Known
  spread ks = with_new_places ks (flat_map (λ k. successors k.at (look k.place)) ks)

  -- the places that walks of at most so many edges reach
  abbrev pub known_after : (rounds : ℕ) → List Known
  known_after rounds = iterate spread rounds (known_at 0 (state 0 []) ∷ [])

  -- the greatest height on walks over so many places
  abbrev pub highest : (places : ℕ) → ℕ
  highest places = greatest (known_after places)

-- the greatest height on a walk over units
abbrev pub height_of : Tables → List CodeUnit → ℕ
height_of t units = highest (λ p. seen_instr (fetch_unit t units p)) (length units)
