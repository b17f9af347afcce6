-- The table of a program, or its faults, the first of which decides.
use Rattle.std.specs.Prelude.{◌≡◌, ◌≢◌, ℕ, ◌+◌, ◌^◌, List, [], ◌∷◌, ◌++◌, Option, Some, None, nat_lt, map, if◌then◌else◌}
use Rattle.py_base.specs.declared.limits.TreeLimit.{TreeLimit}
use Rattle.py_base.specs.declared.limits.TreeLimit.TheVariants as limit
use Rattle.py_base.specs.declared.location.SourceLocation.{SourceLocation}
use Rattle.py_base.specs.declared.shapes.Malformed.{Malformed}
use Rattle.py_tree.specs.Tree as tree
use Rattle.py_limits.specs.Nesting.{expr_nesting, nesting}
use Rattle.py_limits.specs.Size.{expr_size, size_of}
use Rattle.py_shapes.specs.Valid.{expr_shapes, stmts_shapes}
use Rattle.py_scope.specs.declared.error.ScanFault.{ScanFault}
use Rattle.py_scope.specs.declared.error.ScanFault.TheVariants as fault
use Rattle.py_scope.specs.declared.error.SymbolTableError.{SymbolTableError}
use Rattle.py_scope.specs.declared.refusal.Refusal.{Refusal}
use Rattle.py_scope.specs.declared.table.SymbolTable.{SymbolTable}
use Rattle.py_scope.specs.Refusals.{text_of}
use Rattle.py_scope.specs.Resolved.{first_fault, resolved_table}
use Rattle.py_name_uses.specs.Steps.{Outcome, Done, Refused}
use Rattle.py_scan.specs.Scan.{scan_program, scan_value}

-- what is wrong, and where it stands
pub record Fault : Type 0 where
  pub error : ScanFault
  pub location : Option SourceLocation

abbrev pub fault_of : Option Refusal → List Fault
fault_of None = []
fault_of (Some r) = record { error = fault.Text (text_of r); location = None } ∷ []

-- what the scan refuses, where it stands; else what the scopes that it met refuse together, which stands nowhere
abbrev pub faults_of : Outcome → List Fault
faults_of (Done s) = fault_of (first_fault s.scopes)
faults_of (Refused error location) = record { error = error; location = location } ∷ []

-- the table to which the scopes resolve
abbrev pub table_of : Outcome → Option SymbolTable
table_of (Done s) = resolved_table s.scopes
table_of (Refused error location) = None

-- the faults of the scopes of a file, and of an expression
abbrev pub body_faults : tree.Stmts → List Fault
body_faults body = faults_of (scan_program body)

abbrev pub value_faults : tree.Expr → List Fault
value_faults e = faults_of (scan_value e)

-- a fault of the whole tree, where a number reaches its limit
abbrev pub too_large : TreeLimit → ℕ → ℕ → List Fault
too_large which limit n = if nat_lt n limit then [] else record { error = fault.TooLarge which; location = None } ∷ []

abbrev pub malformed_fault : Malformed → Fault
malformed_fault shape = record { error = fault.Malformed shape; location = None }

-- the faults of a tree of this nesting, size and shapes
abbrev pub tree_faults : ℕ → ℕ → List Malformed → List Fault
tree_faults depth size shapes = too_large limit.Depth (2 ^ 10) depth ++ (too_large limit.Nodes (2 ^ 22) size ++ map malformed_fault shapes)

-- those of the tree come before those of the scopes
abbrev pub program_faults : tree.Stmts → List Fault
program_faults body = tree_faults (nesting (tree.Module body)) (size_of (tree.Module body)) (stmts_shapes None body) ++ body_faults body

abbrev pub expr_faults : tree.Expr → List Fault
expr_faults e = tree_faults (expr_nesting e + 1) (expr_size e + 1) (expr_shapes None e) ++ value_faults e

-- the error is the first fault, unless it says that there was no memory
abbrev pub IsFirst : SymbolTableError → List Fault → Type 0
IsFirst e fs = e.error ≢ fault.OutOfMemory → (rest : List Fault) × (fs ≡ record { error = e.error; location = e.location } ∷ rest)

-- out of memory has no place
abbrev pub IsPlaced : SymbolTableError → Type 0
IsPlaced e = e.error ≡ fault.OutOfMemory → e.location ≡ None
