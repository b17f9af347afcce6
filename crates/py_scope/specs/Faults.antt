-- What an error gives of a refusal.
use Rattle.std.specs.Prelude.{◌≡◌, Option, Some, None}
use Rattle.py_base.specs.declared.location.SourceLocation.{SourceLocation}
use Rattle.py_scope.specs.declared.error.ScanFault.{ScanFault}
use Rattle.py_scope.specs.declared.error.ScanFault.TheVariants.{Text, Malformed, TooLarge, OutOfMemory}
use Rattle.py_scope.specs.declared.error.SymbolTableError.{SymbolTableError}
use Rattle.py_scope.specs.declared.refusal.Refusal.{Refusal}
use Rattle.py_scope.specs.Refusals.{text_of}

-- the text of the refusal, at this location; out of memory may come in its place
abbrev pub TellsFault : ScanFault → Option SourceLocation → Option Refusal → Option SourceLocation → Type 0
TellsFault (Text t) at None location = ⊥
TellsFault (Text t) at (Some r) location = (t ≡ text_of r) × (at ≡ location)
TellsFault (Malformed m) at o location = ⊥
TellsFault (TooLarge l) at o location = ⊥
TellsFault OutOfMemory at o location = at ≡ None

abbrev pub Tells : SymbolTableError → Option Refusal → Option SourceLocation → Type 0
Tells e o location = TellsFault e.error e.location o location

abbrev pub TellsRefusal : SymbolTableError → Refusal → Option SourceLocation → Type 0
TellsRefusal e r location = Tells e (Some r) location

-- out of memory
abbrev pub TellsNone : SymbolTableError → Type 0
TellsNone e = Tells e None None
