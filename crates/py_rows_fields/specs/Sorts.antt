-- What rows may be named as.
use Rattle.std.specs.Prelude.{ℕ, Bool, true, false}
use Rattle.py_rows_fields.specs.declared.kinds.Kind.{Kind}
use Rattle.py_rows_fields.specs.declared.kinds.Kind.TheVariants as kind
use Rattle.py_rows_fields.specs.declared.kinds.Sort.{Sort}
use Rattle.py_rows_fields.specs.declared.kinds.Sort.TheVariants as sort

abbrev pub sort_of : Kind → Sort
sort_of (kind.Mod k) = sort.Mod
sort_of (kind.Stmt k) = sort.Stmt
sort_of (kind.Expr k) = sort.Expr
sort_of (kind.Constant k) = sort.Constant
sort_of (kind.TypeParam k) = sort.TypeParam
sort_of kind.Arguments = sort.Arguments
sort_of kind.ArgWithDefault = sort.ArgWithDefault
sort_of kind.Arg = sort.Arg
sort_of kind.Keyword = sort.Keyword
sort_of kind.Alias = sort.Alias
sort_of kind.WithItem = sort.WithItem
sort_of kind.ExceptHandler = sort.ExceptHandler
sort_of kind.Comprehension = sort.Comprehension
sort_of kind.MatchCase = sort.MatchCase

abbrev pub sort_number : Sort → ℕ
sort_number sort.Mod = 0
sort_number sort.Stmt = 1
sort_number sort.Expr = 2
sort_number sort.Constant = 3
sort_number sort.TypeParam = 4
sort_number sort.Arguments = 5
sort_number sort.ArgWithDefault = 6
sort_number sort.Arg = 7
sort_number sort.Keyword = 8
sort_number sort.Alias = 9
sort_number sort.WithItem = 10
sort_number sort.ExceptHandler = 11
sort_number sort.Comprehension = 12
sort_number sort.MatchCase = 13

-- whether rows have a row and a column of the source before their fields
abbrev pub is_located : Sort → Bool
is_located sort.Mod = false
is_located sort.Stmt = true
is_located sort.Expr = true
is_located sort.Constant = false
is_located sort.TypeParam = true
is_located sort.Arguments = false
is_located sort.ArgWithDefault = false
is_located sort.Arg = true
is_located sort.Keyword = false
is_located sort.Alias = false
is_located sort.WithItem = false
is_located sort.ExceptHandler = false
is_located sort.Comprehension = false
is_located sort.MatchCase = false
