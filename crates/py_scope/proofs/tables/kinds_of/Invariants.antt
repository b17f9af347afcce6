use Rattle.std.proofs.Common.{◌≡◌, take, map}
use Rattle.py_scope.specs.declared.kinds.SymbolScope.{SymbolScope}
use Rattle.py_scope.specs.Making.{kind_at}
use Rattle.py_scope.proofs.tables.kinds_of.Given as goal

abbrev pub invariant-loop-i : goal.invariant-loop-i
invariant-loop-i l = l.kinds.items ≡ map {B = SymbolScope} (kind_at l.rows l.scope) (take l.i l.row.entries)
