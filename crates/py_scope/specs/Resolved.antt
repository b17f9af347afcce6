-- What the scopes of a program resolve to.
use Rattle.std.specs.Prelude.{ℕ, suc, List, [], ◌∷◌, Option}
use Rattle.py_scope.specs.declared.rows.Row.{Row}
use Rattle.py_scope.specs.declared.refusal.Refusal.{Refusal}
use Rattle.py_scope.specs.declared.table.SymbolTable.{SymbolTable}
use Rattle.py_scope.specs.Marks.{looks, settled_row}
use Rattle.py_scope.specs.Lifts.{lifts, lifted_all, first_refusal, first_of_two}
use Rattle.py_scope.specs.Checks.{first_wrong}
use Rattle.py_scope.specs.Tables.{table_from}
use Rattle.py_scope.specs.Scanned.{Scanned, order_of}

-- the scopes, numbered from k on, each changed by its number
abbrev pub each_row : (ℕ → Row → Row) → ℕ → List Row → List Row
each_row f k [] = []
each_row f k (r ∷ rs) = f k r ∷ each_row f (suc k) rs

-- each name that a walrus in a comprehension stores is bound in its holder
abbrev pub lifted_rows : List Row → List ℕ → List Row
lifted_rows rows order = each_row (lifted_all rows (lifts rows order)) 0 rows

-- each look outward marks the scopes that it passes and the one where it ends
abbrev pub settled_rows : List Row → List ℕ → List Row
settled_rows rows order = each_row (settled_row rows (looks rows order)) 0 rows

-- the first fault: walruses are lifted before any name is looked for
abbrev pub first_fault_of : List Row → List ℕ → Option Refusal
first_fault_of rows order = first_of_two (first_refusal rows (lifts rows order)) (first_wrong (lifted_rows rows order) order)

abbrev pub resolved_of : List Row → List ℕ → Option SymbolTable
resolved_of rows order = table_from (settled_rows (lifted_rows rows order) order)

abbrev pub first_fault : Scanned → Option Refusal
first_fault s = first_fault_of s.rows (order_of s)

-- the table of the program
abbrev pub resolved_table : Scanned → Option SymbolTable
resolved_table s = resolved_of s.rows (order_of s)

-- the scopes once walruses are lifted, and once the looks outward have marked them
abbrev pub after_lifts : Scanned → List Row
after_lifts s = lifted_rows s.rows (order_of s)

abbrev pub after_looks : Scanned → List Row
after_looks s = settled_rows (after_lifts s) (order_of s)
