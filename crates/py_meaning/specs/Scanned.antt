-- What the scan of a tree says of it: its scopes, and what is wrong with them.
use Rattle.std.specs.Prelude.{List, [], Option, Some, None, map}
use Rattle.py_tree.specs.Tree as tree
use Rattle.py_scope.specs.Flat.{flat_table}
use Rattle.py_scope.specs.declared.flat.ScopeEntry.{ScopeEntry}
use Rattle.py_scope.specs.declared.table.SymbolTable.{SymbolTable}
use Rattle.py_scan.specs.Scan.{scan_program, scan_value}
use Rattle.py_symbol_tables.specs.Tables as tables
use Rattle.py_symbol_tables.specs.Tables.{body_faults, table_of, value_faults}
use Rattle.symboltable.specs.Errors.{codegen_error}
use Rattle.py_meaning.specs.ExprFaults.{Fault}

-- the scopes of a table in preorder; none where there is no table
abbrev pub entries_of : Option SymbolTable → List ScopeEntry
entries_of None = []
entries_of (Some table) = flat_table table 0

-- the scopes to which the names of a tree resolve; what is entered at a prompt is scanned as a file is, and the type of a function, which is no tree
-- of a program, has none
abbrev pub scopes_of : tree.Mod → List ScopeEntry
scopes_of (tree.Module stmts) = entries_of (table_of (scan_program stmts))
scopes_of (tree.Interactive stmts) = entries_of (table_of (scan_program stmts))
scopes_of (tree.Expression value) = entries_of (table_of (scan_value value))
scopes_of other = []

-- a fault of the scan as one of the compile calls
abbrev pub fault_as : tables.Fault → Fault
fault_as f = record { error = codegen_error f.error; location = f.location }

-- what the scan of a tree refuses; the type of a function is not scanned
abbrev pub scan_faults : tree.Mod → List Fault
scan_faults (tree.Module stmts) = map fault_as (body_faults stmts)
scan_faults (tree.Interactive stmts) = map fault_as (body_faults stmts)
scan_faults (tree.Expression value) = map fault_as (value_faults value)
scan_faults other = []
