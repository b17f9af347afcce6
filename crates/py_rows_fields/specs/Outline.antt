-- What each row may be named as and how deep it nests, and what may be named.
use Rattle.std.specs.Prelude.{ℕ, ◌+◌, ◌^◌, ◌==◌, max, Bool, false, nat_lt, List, [], ◌∷◌, Result}
use Rattle.std.specs.Option.{option_map_or}
use Rattle.std.specs.List.{list_all, slice_get}
use Rattle.py_rows_fields.specs.declared.error.RowsError.{RowsError}
use Rattle.py_rows_fields.specs.declared.error.RowsError.TheVariants.{LaterRow, WrongKind, TooDeep}
use Rattle.py_rows_fields.specs.declared.outline.Row.{Row}
use Rattle.py_rows_fields.specs.declared.parts.Part.{Part}
use Rattle.py_rows_fields.specs.Gives.{where_holds, ◌>>=◌}
use Rattle.py_rows_fields.specs.Sorts.{sort_number}

abbrev pub all_earlier : ℕ → List Part → Bool
all_earlier n = list_all (λ p. nat_lt p.number n)

-- the row that is named is what it has to be
abbrev pub fits : List Row → Part → Bool
fits rows p = option_map_or (λ r. sort_number r.sort == sort_number p.sort) (slice_get rows p.number) false

abbrev pub all_fit : List Row → List Part → Bool
all_fit rows = list_all (fits rows)

-- the rows that row n names are earlier ones, and of the sorts that its fields take
abbrev pub checked_rows : ℕ → List Part → List Row → Result (Unit {0}) RowsError
checked_rows n parts rows = where_holds {A = Unit {0}} (all_earlier n parts) (LaterRow n) tt >>= λ _. where_holds (all_fit rows parts) (WrongKind n) tt

abbrev pub depth_at : List Row → ℕ → ℕ
depth_at rows number = option_map_or (λ r. r.depth) (slice_get rows number) 0

-- the nesting of the deepest row that is named
abbrev pub deepest : List Row → List Part → ℕ
deepest rows [] = 0
deepest rows (p ∷ ps) = max (depth_at rows p.number) (deepest rows ps)

-- the nesting of row n: one more than that of the deepest row that it names, and less than 2^10
abbrev pub depth_of : ℕ → List Part → List Row → Result ℕ RowsError
depth_of n parts rows = where_holds (nat_lt (deepest rows parts + 1) (2 ^ 10)) (TooDeep n) (deepest rows parts + 1)
