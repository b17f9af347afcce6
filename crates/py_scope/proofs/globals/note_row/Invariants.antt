use Rattle.std.proofs.Common.{◌≡◌, ◌||◌, take}
use Rattle.std.specs.List.{list_any}
use Rattle.py_scope.specs.Names.{Name, same_name}
use Rattle.py_scope.specs.Tables.{declares}
use Rattle.py_scope.proofs.globals.note_row.Given as goal

abbrev pub invariant-loop-i : goal.invariant-loop-i
invariant-loop-i l = (n : Name) → list_any (same_name n) l.names.keys ≡ (list_any (same_name n) l.fn.names.keys || list_any (declares n) (take l.i l.row.entries))
