-- The table of a program follows from the uses of names in it.
use Rattle.py_scope.specs.declared.table.SymbolTable.{SymbolTable}
use Rattle.py_scope.specs.Laws.{TableFollows}
use Rattle.py_name_uses.specs.Steps.{Outcome, Done, Refused}

-- the table follows from the uses of names that the scan met
abbrev pub Follows : Outcome → SymbolTable → Type 0
Follows (Done s) table = TableFollows s.scopes.rows table
Follows (Refused error location) table = ⊥
