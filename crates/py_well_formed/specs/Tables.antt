-- What is asked of the tables of a code: its parameters, cells and free names.
use Rattle.std.specs.Prelude.{ℕ, ℤ, pos, negsuc, List, [], ◌∷◌, length, Bool, true, false, ◌||◌, Option, None, Some, nat_lt, nat_eq, ◌==◌}
use Rattle.std.specs.Int.RustNames.{bit_and}
use Rattle.std.specs.List.{list_all, list_any}
use Rattle.py_bytecode.specs.Cells.{parameter_count}
use Rattle.py_bytecode.specs.Equality.{text_eq}
use Rattle.py_bytecode.specs.Objects.{Head}

-- the flags have this one
abbrev pub has_flag : (flags flag : ℕ) → Bool
has_flag flags flag = bit_and flags flag == flag

-- positional and keyword-only parameters, and those for further ones
abbrev pub parameters : Head → ℕ
parameters h = parameter_count h.flags h.arg_count h.kwonlyarg_count

-- -1, or the place of one of so many parameters
abbrev pub is_entry : ℕ → ℤ → Bool
is_entry count (pos place) = nat_lt place count
is_entry count (negsuc n) = nat_eq n 0

-- one entry for each cell, where there are entries
abbrev pub has_entries : ℕ → Option (List ℤ) → Bool
has_entries cells None = true
has_entries cells (Some entries) = length entries == cells

abbrev pub are_entries : ℕ → Option (List ℤ) → Bool
are_entries count None = true
are_entries count (Some entries) = list_all (is_entry count) entries

abbrev pub stands_in : List (List ℕ) → List ℕ → Bool
stands_in names name = list_any (text_eq name) names

-- a name stands twice
abbrev pub repeats : List (List ℕ) → Bool
repeats [] = false
repeats (name ∷ names) = stands_in names name || repeats names

-- a name stands in both
abbrev pub shares : List (List ℕ) → List (List ℕ) → Bool
shares names others = list_any (stands_in others) names
