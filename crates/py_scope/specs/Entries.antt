-- What a scope holds of a name.
use Rattle.std.specs.Prelude.{ℕ, List, Option, Some, None, slice_get}
use Rattle.py_scope.specs.declared.rows.Row.{Row}
use Rattle.py_scope.specs.declared.rows.Entry.{Entry}
use Rattle.py_scope.specs.Names.{Name, lookup}

abbrev pub entry_of : Name → Option Row → Option Entry
entry_of n None = None
entry_of n (Some t) = lookup n t.entries

-- what scope s holds of n
abbrev pub entry_at : List Row → ℕ → Name → Option Entry
entry_at rows s n = entry_of n (slice_get rows s)
