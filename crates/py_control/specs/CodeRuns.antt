-- Runs of items, and the children that they load.
use Rattle.std.specs.Prelude.{ℕ, suc, List, [], ◌∷◌, ◌++◌, Option, Some, None, nat_eq, if◌then◌else◌, slice_get}
use Rattle.py_bytecode.specs.Values.{Value, Constant, Given, Child, Entry, It, Cells, Answer, Ran}
use Rattle.py_bytecode.specs.Machine.{Instr, Push, ReturnConst, at_places, Fetched, Found, Nothing, machine, start, fuel}
use Rattle.py_control.specs.Code.{Item, Do, Label, size}

-- a code's instructions, and the addresses of its labels
abbrev pub instrs : {K : Type 0} → List (Item K) → List (Instr K ℕ)
instrs [] = []
instrs (Do i ∷ is) = i ∷ instrs is
instrs (Label l ∷ is) = instrs is

-- how many instructions stand before a label, from n on
abbrev pub place_of : {K : Type 0} → List (Item K) → ℕ → ℕ → ℕ
place_of [] l n = n
place_of (Do i ∷ is) l n = place_of is l (suc n)
place_of (Label k ∷ is) l n = if nat_eq k l then n else place_of is l n

abbrev pub found_item : {K : Type 0} → (ℕ → ℕ) → ℕ → Option (Instr K ℕ) → Fetched K ℕ
found_item spot p None = Nothing
found_item spot p (Some i) = Found (at_places spot i) (suc p)

abbrev pub fetch_at : {K : Type 0} → List (Item K) → ℕ → Fetched K ℕ
fetch_at is p = found_item (λ l. place_of is l 0) p (slice_get (instrs is) p)

abbrev pub runs_code : {K : Type 0} → List (Item K) → List Answer → Ran K
runs_code is answers = machine (fetch_at is) (fuel (size is) answers) 0 (start answers)

-- the children that a code loads
abbrev pub child_of : {K : Type 0} → Value K → List K
child_of (Constant n) = []
child_of (Given n k) = []
child_of (Child k) = k ∷ []

abbrev pub child_in : {K : Type 0} → Entry K → List K
child_in (It x) = child_of x
child_in (Cells cs) = []

abbrev pub loaded_children : {K : Type 0} → Instr K ℕ → List K
loaded_children (Push e) = child_in e
loaded_children (ReturnConst x) = child_of x
loaded_children _ = []

abbrev pub children : {K : Type 0} → List (Item K) → List K
children [] = []
children (Do i ∷ is) = loaded_children i ++ children is
children (Label l ∷ is) = children is
