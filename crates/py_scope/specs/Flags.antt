-- What the looks leave on a symbol.
use Rattle.std.specs.Prelude.{ℕ, Bool, true, false, ◌&&◌, Option, Some, None, List}
use Rattle.py_scope.specs.declared.rows.Entry.{Entry}
use Rattle.py_scope.specs.declared.rows.Row.{Row}
use Rattle.py_scope.specs.Names.{Name, same_name}
use Rattle.py_scope.specs.Outward.{Touch, Leaves, Passes, Captures}
use Rattle.py_scope.specs.Marks.{touch_by}

abbrev pub captured_opt : Option Entry → Bool
captured_opt None = false
captured_opt (Some s) = s.captured

abbrev pub is_captures : Touch → Bool
is_captures Leaves = false
is_captures Passes = false
is_captures Captures = true

abbrev pub is_passes : Touch → Bool
is_passes Leaves = false
is_passes Passes = true
is_passes Captures = false

-- the look captures n in scope t
abbrev pub captures : List Row → ℕ → Name → ℕ × Name → Bool
captures base t n look = same_name n look.1 && is_captures (touch_by base look.0 look.1 t)
