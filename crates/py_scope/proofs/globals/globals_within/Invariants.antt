use Rattle.std.proofs.Common.{◌≡◌, take}
use Rattle.std.specs.List.{list_any}
use Rattle.py_scope.specs.Names.{Name, same_name}
use Rattle.py_scope.specs.Tables.{declares_in}
use Rattle.py_scope.proofs.globals.globals_within.Given as goal

abbrev pub invariant-loop-row : goal.invariant-loop-row
invariant-loop-row l = (n : Name) → list_any (same_name n) l.names.keys ≡ list_any (declares_in n) (take l.row-index l.row-items)
