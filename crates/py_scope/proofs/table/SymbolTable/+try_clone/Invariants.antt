use Rattle.std.proofs.Common.{◌≡◌, take}
use Rattle.py_scope.proofs.table.SymbolTable.+try_clone.Given as goal

abbrev pub invariant-loop-table : goal.invariant-loop-table
invariant-loop-table l = l.sub_tables.items ≡ take l.table-index l.table-items
