-- What a kind of table, and a table, are written as.
use Rattle.std.specs.Prelude.{ℕ, List, ◌++◌, length, codes, decimal}
use Rattle.py_scope.specs.declared.table_type.SymbolTableType.{SymbolTableType}
use Rattle.py_scope.specs.declared.table_type.SymbolTableType.TheVariants.{Module, Class, Function, Comprehension, TypeParams}
use Rattle.py_scope.specs.declared.table.SymbolTable.{SymbolTable, out-SymbolTable}

abbrev pub kind_text : SymbolTableType → List ℕ
kind_text Module = codes "module"
kind_text Class = codes "class"
kind_text Function = codes "function"
kind_text Comprehension = codes "comprehension"
kind_text TypeParams = codes "type parameter"

-- how many symbols it has, and how many tables stand directly in it
abbrev pub table_text : SymbolTable → List ℕ
table_text t =
    codes "SymbolTable(" ++ (decimal (length (out-SymbolTable t).symbols) ++ (codes " symbols, " ++ (decimal (length (out-SymbolTable t).sub_tables) ++ codes " sub scopes)")))
