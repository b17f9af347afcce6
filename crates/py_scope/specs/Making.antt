-- What the code keeps on its way to a table: the places of names, and the kinds of names whose symbols are not made yet.
use Rattle.std.specs.Prelude.{ℕ, suc, List, [], ◌∷◌, Option, Some, None, map, position, slice_get}
use Rattle.std.specs.Map.{keys_of}
use Rattle.py_scope.specs.declared.rows.Entry.{Entry}
use Rattle.py_scope.specs.declared.rows.Row.{Row}
use Rattle.py_scope.specs.declared.kinds.SymbolScope.{SymbolScope}
use Rattle.py_scope.specs.declared.symbols.Symbol.{Symbol}
use Rattle.py_scope.specs.Names.{Name, same_name}
use Rattle.py_scope.specs.Checks.{entries_of}
use Rattle.py_scope.specs.Tables.{kind_in, flags_in}

-- the place of the first pair with this name
abbrev pub place_of : {V : Type 0} → Name → List (Name × V) → Option ℕ
place_of n es = position (same_name n) (keys_of es)

-- the kind of a name of scope s that has this entry
abbrev pub kind_at : List Row → ℕ → Name × Entry → SymbolScope
kind_at rows s p = kind_in rows s p.0 p.1

-- the same, where there is a name
abbrev pub kinds_at : List Row → ℕ → Option (Name × Entry) → List SymbolScope
kinds_at rows s None = []
kinds_at rows s (Some p) = kind_at rows s p ∷ []

-- the kinds of the names of scope s, in order
abbrev pub kinds_in : List Row → ℕ → List SymbolScope
kinds_in rows s = map {B = SymbolScope} (kind_at rows s) (entries_of (slice_get rows s))

-- the kinds of the names of each scope from number k on
abbrev pub all_kinds : List Row → ℕ → List Row → List (List SymbolScope)
all_kinds rows k [] = []
all_kinds rows k (r ∷ rs) = kinds_in rows k ∷ all_kinds rows (suc k) rs

-- the symbol of a name that has this kind
abbrev pub symbol_with : Name × Entry → SymbolScope → Symbol
symbol_with p k = record { name = p.0; scope = k; flags = record { 0 = flags_in p.1 } }

-- the symbols of names that have these kinds
abbrev pub symbols_with : List (Name × Entry) → List SymbolScope → List Symbol
symbols_with [] ks = []
symbols_with (e ∷ es) [] = []
symbols_with (e ∷ es) (k ∷ ks) = symbol_with e k ∷ symbols_with es ks
