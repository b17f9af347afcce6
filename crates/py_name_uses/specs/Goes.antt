-- What a call of the scan did.
use Rattle.std.specs.Prelude.{◌≡◌, ◌≢◌, Bool, IsTrue, Option, Result, Ok, Err, None}
use Rattle.py_base.specs.declared.location.SourceLocation.{SourceLocation}
use Rattle.py_scope.specs.declared.error.ScanFault.{ScanFault}
use Rattle.py_scope.specs.declared.error.ScanFault.TheVariants.{Text, Malformed, TooLarge, OutOfMemory}
use Rattle.py_scope.specs.declared.error.SymbolTableError.{SymbolTableError}
use Rattle.py_scope.specs.Scanned.{Scanned, IsWithin}
use Rattle.py_name_uses.specs.declared.scan.Scan.{Scan}
use Rattle.py_name_uses.specs.Steps.{State, Outcome, Done, Refused}

-- what a scanner holds
abbrev pub state : Scan → State
state a = record { scopes = a.scopes; class = a.class; postponed = a.postponed }

-- the scan is done and has reached this state, or the error is its refusal; out of memory may come in its place
abbrev pub Goes : {A : Type 0} → Result A SymbolTableError → State → Outcome → Type 0
Goes (Ok a) s o = o ≡ Done s
Goes (Err e) s o = e.error ≢ OutOfMemory → o ≡ Refused e.error e.location

-- a text, or out of memory, which has no place
abbrev pub TextOrMemory : ScanFault → Option SourceLocation → Type 0
TextOrMemory (Text t) at = Unit {0}
TextOrMemory (Malformed m) at = ⊥
TextOrMemory (TooLarge l) at = ⊥
TextOrMemory OutOfMemory at = at ≡ None

abbrev pub IsTextOrMemory : SymbolTableError → Type 0
IsTextOrMemory e = TextOrMemory e.error e.location

abbrev pub IsMemory : SymbolTableError → Type 0
IsMemory e = (e.error ≡ OutOfMemory) × (e.location ≡ None)

-- where a node has type parameters, their scope is open
abbrev pub IsOpen : Bool → Scanned → Type 0
IsOpen generic s = IsTrue generic → IsWithin s
