-- Kinds and lists of symbols.
use Rattle.std.specs.Prelude.{◌≡◌, Bool, true, false, List, [], ◌∷◌}
use Rattle.std.specs.List.{list_any}
use Rattle.py_scope.specs.declared.symbols.Symbol.{Symbol}
use Rattle.py_scope.specs.declared.table.SymbolTable.{SymbolTable, out-SymbolTable}
use Rattle.py_scope.specs.Names.{same_name}
use Rattle.py_scope.specs.declared.kinds.SymbolScope.{SymbolScope}
use Rattle.py_scope.specs.declared.kinds.SymbolScope.TheVariants.{Unknown, Local, GlobalExplicit, GlobalImplicit, Free, Cell}

abbrev pub is_global_kind : SymbolScope → Bool
is_global_kind Unknown = false
is_global_kind Local = false
is_global_kind GlobalExplicit = true
is_global_kind GlobalImplicit = true
is_global_kind Free = false
is_global_kind Cell = false

abbrev pub is_local_kind : SymbolScope → Bool
is_local_kind Unknown = false
is_local_kind Local = true
is_local_kind GlobalExplicit = false
is_local_kind GlobalImplicit = false
is_local_kind Free = false
is_local_kind Cell = true

-- no name stands twice
abbrev pub AreApart : List Symbol → Type 0
AreApart [] = Unit {0}
AreApart (s ∷ ss) = (list_any (λ t. same_name s.name t.name) ss ≡ false) × AreApart ss

-- the symbols of a table
abbrev pub symbols_of : SymbolTable → List Symbol
symbols_of t = (out-SymbolTable t).symbols
