-- The names that a scope holds, each once.
use Rattle.std.specs.Prelude.{◌≡◌, ℕ, false, List, [], ◌∷◌, Option, Some, None, slice_get}
use Rattle.std.specs.List.{list_any}
use Rattle.std.specs.Map.{keys_of}
use Rattle.py_scope.specs.declared.rows.Row.{Row}
use Rattle.py_scope.specs.Names.{Name, same_name}

abbrev pub names_of : Option Row → List Name
names_of None = []
names_of (Some t) = keys_of t.entries

abbrev pub AreDistinct : List Name → Type 0
AreDistinct [] = Unit {0}
AreDistinct (n ∷ ns) = (list_any (same_name n) ns ≡ false) × AreDistinct ns

-- no scope holds a name twice
abbrev pub IsOnce : List Row → Type 0
IsOnce rows = (t : ℕ) → AreDistinct (names_of (slice_get rows t))
