-- A table's scopes in one flat list, in preorder.
use Rattle.std.specs.Prelude.{ℕ, suc, ◌+◌, List, [], ◌∷◌, ◌++◌, length, Option, option_map, slice_get}
use Rattle.py_scope.specs.declared.table_type.SymbolTableType.{SymbolTableType}
use Rattle.py_scope.specs.declared.symbols.Symbol.{Symbol}
use Rattle.py_scope.specs.declared.table.SymbolTable.{SymbolTable, fold-SymbolTable}
use Rattle.py_scope.specs.declared.table.SymbolTable.TheOpen.{SymbolTable-F}
use Rattle.py_scope.specs.declared.flat.ScopeEntry.{ScopeEntry}

-- the scopes of these tables one after another, numbered from k on
abbrev pub all_flat : List (ℕ → List ScopeEntry) → ℕ → List ScopeEntry
all_flat [] k = []
all_flat (f ∷ fs) k = f k ++ all_flat fs (k + length (f k))

-- a scope, and those inside
abbrev pub flat_step : SymbolTable-F (ℕ → List ScopeEntry) → ℕ → List ScopeEntry
flat_step t k = record { typ = t.typ; symbols = t.symbols; next = suc k + length (all_flat t.sub_tables (suc k)) } ∷ all_flat t.sub_tables (suc k)

-- the scopes of the table, numbered from k on
abbrev pub flat_table : SymbolTable → ℕ → List ScopeEntry
flat_table = fold-SymbolTable (ℕ → List ScopeEntry) flat_step

abbrev pub symbols_at : List ScopeEntry → ℕ → Option (List Symbol)
symbols_at entries i = option_map (λ e. e.symbols) (slice_get entries i)

abbrev pub typ_at : List ScopeEntry → ℕ → Option SymbolTableType
typ_at entries i = option_map (λ e. e.typ) (slice_get entries i)

abbrev pub next_at : List ScopeEntry → ℕ → Option ℕ
next_at entries i = option_map (λ e. e.next) (slice_get entries i)
