-- A map from names to symbols as the list of the symbols.
use Rattle.std.specs.Prelude.{◌≡◌, List, [], ◌∷◌, String, string_bytes}
use Rattle.std.specs.declared.alloc.Global.{Global}
use Rattle.py_scope.specs.declared.symbols.Symbol.{Symbol}

abbrev pub values_of : List (String Global × Symbol) → List Symbol
values_of [] = []
values_of (e ∷ es) = e.1 ∷ values_of es

-- each key is its symbol's name
abbrev pub IsNamed : List (String Global × Symbol) → Type 0
IsNamed [] = Unit {0}
IsNamed (e ∷ es) = (string_bytes e.0 ≡ e.1.name) × IsNamed es
