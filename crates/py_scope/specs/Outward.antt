-- The look outward from a scope, over scopes with parent numbers.
use Rattle.std.specs.Prelude.{ℕ, zero, suc, ◌<◌, Bool, true, false, not, List, [], ◌∷◌, Option, Some, None, if◌then◌else◌, nat_eq, slice_get, length}
use Rattle.py_scope.specs.declared.table_type.SymbolTableType.{SymbolTableType}
use Rattle.py_scope.specs.declared.table_type.SymbolTableType.TheVariants.{Module, Class, Function, Comprehension, TypeParams}
use Rattle.py_scope.specs.declared.rows.Holds.{Holds}
use Rattle.py_scope.specs.declared.rows.Holds.TheVariants.{Plain, DeclaredGlobal, DeclaredNonlocal, LiftedFree, LiftedGlobal, LiftedModule, Passed}
use Rattle.py_scope.specs.declared.rows.Entry.{Entry}
use Rattle.py_scope.specs.declared.rows.Row.{Row}
use Rattle.py_scope.specs.declared.outward.Meets.{Meets}
use Rattle.py_scope.specs.declared.outward.Meets.TheVariants.{Past, Binding, Explicit}
use Rattle.py_scope.specs.declared.outward.Found.{Found}
use Rattle.py_scope.specs.declared.outward.Found.TheVariants.{Nowhere, Globally, FreeOf}
use Rattle.py_scope.specs.Names.{Name, same_name, class_cell, lookup}
use Rattle.py_scope.specs.Bits.{is_bound}

-- whether a look for the name stops in such a scope at all
abbrev pub counts : SymbolTableType → Name → Bool
counts Module n = false
counts Class n = same_name n class_cell
counts Function n = true
counts Comprehension n = true
counts TypeParams n = true

-- where a look stops in a scope that counts
abbrev pub stop_of : Holds → Bool → Meets
stop_of DeclaredGlobal bound = Explicit
stop_of LiftedGlobal bound = Explicit
stop_of LiftedModule bound = Past
stop_of Plain bound = if bound then Binding else Past
stop_of DeclaredNonlocal bound = if bound then Binding else Past
stop_of LiftedFree bound = if bound then Binding else Past
stop_of Passed bound = if bound then Binding else Past

abbrev pub stop_of_entry : Option Entry → Meets
stop_of_entry None = Past
stop_of_entry (Some s) = stop_of s.holds (is_bound s)

-- what a look for the name meets in a scope
abbrev pub meets : Name → Row → Meets
meets n t = if counts t.kind n then stop_of_entry (lookup n t.entries) else Past

-- whether the scope asks outward for the name
abbrev pub asks_as : Holds → Bool → Bool
asks_as Plain bound = not bound
asks_as DeclaredGlobal bound = false
asks_as DeclaredNonlocal bound = true
asks_as LiftedFree bound = false
asks_as LiftedGlobal bound = false
asks_as LiftedModule bound = false
asks_as Passed bound = false

abbrev pub asks : Entry → Bool
asks s = asks_as s.holds (is_bound s)

-- the names for which a scope asks outward, in order
abbrev pub asked_outward : List (Name × Entry) → List Name
asked_outward [] = []
asked_outward (e ∷ es) = if asks e.1 then e.0 ∷ asked_outward es else asked_outward es

-- the names for which one symbol asks
abbrev pub asking_in : Option (Name × Entry) → List Name
asking_in None = []
asking_in (Some e) = if asks e.1 then e.0 ∷ [] else []

-- from the numbers below k the scope `want`, the enclosing scope, and so on
abbrev pub chain : (ℕ → ℕ) → ℕ → ℕ → List ℕ
chain parent zero want = []
chain parent (suc k) want = if nat_eq k want then k ∷ chain parent k (parent k) else chain parent k want

-- the enclosing scopes, nearest first
abbrev pub enclosing_scopes : (ℕ → ℕ) → ℕ → List ℕ
enclosing_scopes parent s = chain parent s (parent s)

abbrev pub found_at : ℕ → Meets → Found → Found
found_at e Past rest = rest
found_at e Binding rest = FreeOf e
found_at e Explicit rest = Globally

-- the first scope of the list that stops the look
abbrev pub look : (ℕ → Meets) → List ℕ → Found
look m [] = Nowhere
look m (e ∷ es) = found_at e (m e) (look m es)

-- whether the look ended at a binding
abbrev pub is_free : Found → Bool
is_free Nowhere = false
is_free Globally = false
is_free (FreeOf b) = true

-- what a look does to a scope
pub data Touch : Type 0 where
  Leaves : Touch
  Passes : Touch
  Captures : Touch

abbrev pub on_way : Found → Touch
on_way Nowhere = Leaves
on_way Globally = Leaves
on_way (FreeOf b) = Passes

abbrev pub touch_here : Meets → Bool → Found → Touch → Touch
touch_here Past here found rest = if here then on_way found else rest
touch_here Binding here found rest = if here then Captures else Leaves
touch_here Explicit here found rest = Leaves

-- a look that ends at a binding captures there, and passes each scope before
abbrev pub touch : (ℕ → Meets) → ℕ → List ℕ → Touch
touch m t [] = Leaves
touch m t (e ∷ es) = touch_here (m e) (nat_eq e t) (look m es) (touch m t es)

abbrev pub parent_of : Option Row → ℕ
parent_of None = 0
parent_of (Some t) = t.parent

abbrev pub meets_of : Name → Option Row → Meets
meets_of n None = Past
meets_of n (Some t) = meets n t

abbrev pub parents : List Row → ℕ → ℕ
parents rows k = parent_of (slice_get rows k)

abbrev pub meetings : List Row → Name → ℕ → Meets
meetings rows n e = meets_of n (slice_get rows e)

-- each scope but the first stands after the enclosing scope
abbrev pub IsNumbered : List Row → Type 0
IsNumbered rows = (k : ℕ) → 0 < k → k < length rows → parents rows k < k

-- what the look from s for n ends with
abbrev pub look_from : List Row → ℕ → Name → Found
look_from rows s n = look (meetings rows n) (enclosing_scopes (parents rows) s)
