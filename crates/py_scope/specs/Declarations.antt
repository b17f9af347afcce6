-- Which uses of a name are refused.
use Rattle.std.specs.Prelude.{ℕ, Bool, true, false, ◌&&◌, Option, Some, None, if◌then◌else◌}
use Rattle.std.specs.Int.RustNames.{bit_or}
use Rattle.py_scope.specs.declared.table_type.SymbolTableType.{SymbolTableType}
use Rattle.py_scope.specs.declared.table_type.SymbolTableType.TheVariants.{Module, Class, Function, Comprehension, TypeParams}
use Rattle.py_scope.specs.declared.rows.Holds.{Holds}
use Rattle.py_scope.specs.declared.rows.Holds.TheVariants.{Plain, DeclaredGlobal, DeclaredNonlocal, LiftedFree, LiftedGlobal, LiftedModule, Passed}
use Rattle.py_scope.specs.declared.rows.Entry.{Entry}
use Rattle.py_scope.specs.declared.roles.Role.{Role}
use Rattle.py_scope.specs.declared.roles.Role.TheVariants.{Used, Assigned, Imported, Parameter, AnnotatedParameter, AnnotationAssigned, Walrus, Iterated, Global, Nonlocal}
use Rattle.py_scope.specs.declared.refusal.Declaration as declaration
use Rattle.py_scope.specs.declared.refusal.Declaration.{Declaration}
use Rattle.py_scope.specs.declared.refusal.Refusal as refusal
use Rattle.py_scope.specs.declared.refusal.Refusal.{Refusal}
use Rattle.py_scope.specs.Names.{Name}
use Rattle.py_scope.specs.Bits.{intersects}
use Rattle.py_scope.specs.Roles.{flags_of}

-- a name that is declared may have been used in none of these ways, and the first one that is met is named
abbrev pub used_before : Declaration → Name → ℕ → Option Refusal
used_before d n bits =
    if intersects bits 0x004 then Some (refusal.TheVariants.Parameter d n)
    else (if intersects bits 0x001 then Some (refusal.TheVariants.Used d n)
    else (if intersects bits 0x008 then Some (refusal.TheVariants.Annotated d n)
    else (if intersects bits 0x002 then Some (refusal.TheVariants.Assigned d n)
    else None)))

abbrev pub is_declared_global : Holds → Bool
is_declared_global Plain = false
is_declared_global DeclaredGlobal = true
is_declared_global DeclaredNonlocal = false
is_declared_global LiftedFree = false
is_declared_global LiftedGlobal = false
is_declared_global LiftedModule = false
is_declared_global Passed = false

-- a name whose last declaration is global may be declared so again
abbrev pub refused_global : Name → Option Entry → Option Refusal
refused_global n None = None
refused_global n (Some s) = if is_declared_global s.holds then None else used_before declaration.TheVariants.Global n s.roles.0

abbrev pub refused_new : SymbolTableType → Name → Option Refusal
refused_new Module n = Some (refusal.TheVariants.NonlocalAtTop n)
refused_new Class n = None
refused_new Function n = None
refused_new Comprehension n = None
refused_new TypeParams n = None

-- the module has no name that is nonlocal
abbrev pub refused_nonlocal : SymbolTableType → Name → Option Entry → Option Refusal
refused_nonlocal kind n None = refused_new kind n
refused_nonlocal kind n (Some s) = used_before declaration.TheVariants.Nonlocal n s.roles.0

abbrev pub bits_of : Option Entry → ℕ
bits_of None = 0
bits_of (Some s) = s.roles.0

-- a comprehension that iterates over a name does not assign it
abbrev pub refused_plain : ℕ → Option Refusal
refused_plain bits = if intersects bits 0x080 && intersects bits 0x002 then Some refusal.TheVariants.IteratedAndAssigned else None

-- why a use of the name is refused, in a scope of this kind, which holds this of the name
abbrev pub refused_use : SymbolTableType → Option Entry → Name → Role → Option Refusal
refused_use kind o n Used = refused_plain (bit_or (bits_of o) (flags_of Used))
refused_use kind o n Assigned = refused_plain (bit_or (bits_of o) (flags_of Assigned))
refused_use kind o n Imported = refused_plain (bit_or (bits_of o) (flags_of Imported))
refused_use kind o n Parameter = refused_plain (bit_or (bits_of o) (flags_of Parameter))
refused_use kind o n AnnotatedParameter = refused_plain (bit_or (bits_of o) (flags_of AnnotatedParameter))
refused_use kind o n AnnotationAssigned = refused_plain (bit_or (bits_of o) (flags_of AnnotationAssigned))
refused_use kind o n Walrus = refused_plain (bit_or (bits_of o) (flags_of Walrus))
refused_use kind o n Iterated = refused_plain (bit_or (bits_of o) (flags_of Iterated))
refused_use kind o n Global = refused_global n o
refused_use kind o n Nonlocal = refused_nonlocal kind n o
