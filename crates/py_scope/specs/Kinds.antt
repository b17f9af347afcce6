-- The kind to which a name resolves.
use Rattle.std.specs.Prelude.{ℕ, Bool, List, [], ◌∷◌, ◌++◌, if◌then◌else◌, fold}
use Rattle.std.specs.List.{list_any}
use Rattle.py_scope.specs.declared.table_type.SymbolTableType.{SymbolTableType}
use Rattle.py_scope.specs.declared.table_type.SymbolTableType.TheVariants.{Module, Class, Function, Comprehension, TypeParams}
use Rattle.py_scope.specs.declared.rows.Holds.{Holds}
use Rattle.py_scope.specs.declared.rows.Holds.TheVariants.{Plain, DeclaredGlobal, DeclaredNonlocal, LiftedFree, LiftedGlobal, LiftedModule, Passed}
use Rattle.py_scope.specs.declared.rows.Entry.{Entry}
use Rattle.py_scope.specs.declared.rows.Row.{Row}
use Rattle.py_scope.specs.declared.outward.Found.{Found}
use Rattle.py_scope.specs.declared.outward.Found.TheVariants.{Nowhere, Globally, FreeOf}
use Rattle.py_scope.specs.declared.kinds.SymbolScope.{SymbolScope}
use Rattle.py_scope.specs.declared.kinds.SymbolScope.TheVariants.{Unknown, Local, GlobalExplicit, GlobalImplicit, Free, Cell}
use Rattle.py_scope.specs.Names.{Name, same_name}
use Rattle.py_scope.specs.Bits.{is_bound}
use Rattle.py_scope.specs.Outward.{Touch, Leaves, Passes, Captures}
use Rattle.py_scope.specs.Marks.{touch_by}

abbrev pub nowhere : SymbolTableType → SymbolScope
nowhere Module = Unknown
nowhere Class = GlobalImplicit
nowhere Function = GlobalImplicit
nowhere Comprehension = GlobalImplicit
nowhere TypeParams = GlobalImplicit

-- a name that is asked outward
abbrev pub kind_found : SymbolTableType → Found → SymbolScope
kind_found kind Nowhere = nowhere kind
kind_found kind Globally = GlobalExplicit
kind_found kind (FreeOf b) = Free

abbrev pub kind_as : SymbolTableType → Found → Holds → Bool → Bool → SymbolScope
kind_as kind found Plain bound captured = if bound then (if captured then Cell else Local) else kind_found kind found
kind_as kind found DeclaredGlobal bound captured = GlobalExplicit
kind_as kind found DeclaredNonlocal bound captured = Free
kind_as kind found LiftedFree bound captured = Free
kind_as kind found LiftedGlobal bound captured = GlobalExplicit
kind_as kind found LiftedModule bound captured = GlobalImplicit
kind_as kind found Passed bound captured = Free

-- the kind of a scope's symbol, where a look from the scope ends so
abbrev pub kind_of_entry : SymbolTableType → Found → Entry → SymbolScope
kind_of_entry kind found s = kind_as kind found s.holds (is_bound s) s.captured

-- a name that is not there goes last
abbrev pub add_name : List Name → Name → List Name
add_name ns n = if list_any (same_name n) ns then ns else ns ++ n ∷ []

abbrev pub names_after : Touch → List Name → Name → List Name
names_after Leaves ns n = ns
names_after Passes ns n = add_name ns n
names_after Captures ns n = add_name ns n

-- the names of scope t in order: those that it held, then those of the looks that touch it, in the order of the looks
abbrev pub names_in_order : List Row → List (ℕ × Name) → ℕ → List Name → List Name
names_in_order base pairs t ns = fold (λ ks p. names_after (touch_by base p.0 p.1 t) ks p.1) ns pairs
