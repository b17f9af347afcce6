-- Taking what a row made, of a list of the nodes of one sort.
use Rattle.std.specs.Prelude.{ℕ, zero, suc, Bool, is_some, List, [], ◌∷◌, ◌++◌, length, Option, Some, None, option_map, option_and_then, Result, Ok, if◌then◌else◌}
use Rattle.std.specs.List.{slice_get}
use Rattle.serde_json.specs.Data.{Data, Items, no_items, item}
use Rattle.serde_json.specs.Find.{as_null}
use Rattle.py_rows_fields.specs.declared.error.RowsError.{RowsError}
use Rattle.py_rows_fields.specs.declared.error.RowsError.TheVariants.{LaterRow, NamedTwice}
use Rattle.py_rows_fields.specs.declared.outline.Row.{Row}
use Rattle.py_rows_fields.specs.Fields.{entries_at, number_at}
use Rattle.py_rows_fields.specs.Gives.{or_fault, ◌>>=◌}

-- which of the nodes of its sort the row made that a field of row n names
abbrev pub index_at : ℕ → Data → List Row → Result ℕ RowsError
index_at n d rows = number_at n d >>= λ k. or_fault (LaterRow n) (option_map (λ r. r.index) (slice_get rows k))

-- the nodes, with nothing left at a place
abbrev pub emptied_nodes : {A : Type 0} → ℕ → List (Option A) → List (Option A)
emptied_nodes k [] = []
emptied_nodes zero (x ∷ xs) = None ∷ xs
emptied_nodes (suc k) (x ∷ xs) = x ∷ emptied_nodes k xs

-- what is left at a place
abbrev pub left_at : {A : Type 0} → ℕ → List (Option A) → Option A
left_at k xs = option_and_then (λ x. x) (slice_get xs k)

-- the node at a place, which no row before row n has named, and the nodes without it
abbrev pub taken_node : {A : Type 0} → ℕ → ℕ → List (Option A) → Result (A × List (Option A)) RowsError
taken_node n k xs = or_fault (NamedTwice n) (left_at k xs) >>= λ x. Ok (x, emptied_nodes k xs)

abbrev pub take : {A : Type 0} → ℕ → Data → List Row → List (Option A) → Result (A × List (Option A)) RowsError
take n d rows xs = index_at n d rows >>= λ k. taken_node n k xs

-- of a field that may be null
abbrev pub take_optional : {A : Type 0} → ℕ → Data → List Row → List (Option A) → Result (Option A × List (Option A)) RowsError
take_optional n d rows xs = if is_some (as_null d) then Ok (None, xs) else (take n d rows xs >>= λ (x, rest). Ok (Some x, rest))

abbrev pub take_each : {A : Type 0} → ℕ → Items → List Row → List (Option A) → Result (List A × List (Option A)) RowsError
take_each n no_items rows xs = Ok ([], xs)
take_each n (item d ds) rows xs = take n d rows xs >>= λ (y, rest). take_each n ds rows rest >>= λ (ys, rest). Ok (y ∷ ys, rest)

abbrev pub take_list : {A : Type 0} → ℕ → Data → List Row → List (Option A) → Result (List A × List (Option A)) RowsError
take_list n d rows xs = entries_at n d >>= λ ds. take_each n ds rows xs

abbrev pub take_each_optional : {A : Type 0} → ℕ → Items → List Row → List (Option A) → Result (List (Option A) × List (Option A)) RowsError
take_each_optional n no_items rows xs = Ok ([], xs)
take_each_optional n (item d ds) rows xs = take_optional n d rows xs >>= λ (y, rest). take_each_optional n ds rows rest >>= λ (ys, rest). Ok (y ∷ ys, rest)

abbrev pub take_optionals : {A : Type 0} → ℕ → Data → List Row → List (Option A) → Result (List (Option A) × List (Option A)) RowsError
take_optionals n d rows xs = entries_at n d >>= λ ds. take_each_optional n ds rows xs

-- the place of a new node, and the nodes with it
abbrev pub added_node : {A : Type 0} → A → List (Option A) → Result (ℕ × List (Option A)) RowsError
added_node x xs = Ok (length xs, xs ++ Some x ∷ [])

-- whether a node is left at a place
abbrev pub is_left_at : {A : Type 0} → ℕ → List (Option A) → Bool
is_left_at k xs = is_some (left_at k xs)
