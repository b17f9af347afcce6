-- The tree whose rows bytes are.
use Rattle.std.specs.Prelude.{ℕ, ◌+◌, ◌-◌, ◌^◌, nat_lt, if◌then◌else◌, Bool, true, false, List, [], ◌∷◌, ◌++◌, length, take, position, Option, Some, None, Result, Ok, Err}
use Rattle.std.specs.List.{slice_get}
use Rattle.std.specs.Option.{option_map_or}
use Rattle.serde_json.specs.Data.{Data, Items, no_items, item}
use Rattle.py_tree.specs.Tree as tree
use Rattle.py_rows_fields.specs.declared.error.RowsError.{RowsError}
use Rattle.py_rows_fields.specs.declared.error.RowsError.TheVariants.{NoMod, NotNamed, TooDeep}
use Rattle.py_rows_fields.specs.declared.kinds.Kind.{Kind}
use Rattle.py_rows_fields.specs.declared.kinds.Kind.TheVariants as kind
use Rattle.py_rows_fields.specs.declared.kinds.StmtKind.TheVariants as statement
use Rattle.py_rows_fields.specs.declared.kinds.Sort.{Sort}
use Rattle.py_rows_fields.specs.declared.kinds.Sort.TheVariants as sort
use Rattle.py_rows_fields.specs.declared.outline.Row.{Row}
use Rattle.py_rows_fields.specs.declared.parts.Part.{Part}
use Rattle.py_rows_fields.specs.Gives.{or_fault, where_holds, ◌>>=◌}
use Rattle.py_rows_fields.specs.JsonRows.{json_of, rows_in}
use Rattle.py_rows_fields.specs.Outline.{checked_rows, depth_of}
use Rattle.py_rows_fields.specs.Parts.{kind_at, parts_of}
use Rattle.py_rows_fields.specs.Sorts.{sort_of}
use Rattle.py_rows.specs.Making.{make}
use Rattle.py_rows_slots.specs.Nodes.{Nodes, is_left, no_nodes}

-- the kind of row n, its fields and the rows that it names, where it may name them
abbrev pub outline : ℕ → Data → List Row → Result (Kind × Items × List Part) RowsError
outline n row rows = kind_at n row >>= λ (kind, fields). parts_of n kind fields >>= λ parts. checked_rows n parts rows >>= λ _. Ok (kind, fields, parts)

abbrev pub is_with : Kind → Bool
is_with (kind.Stmt statement.With) = true
is_with k = false

abbrev pub is_item : Sort → Bool
is_item sort.WithItem = true
is_item s = false

abbrev pub item_count : List Part → ℕ
item_count [] = 0
item_count (p ∷ ps) = if is_item p.sort then item_count ps + 1 else item_count ps

-- a `with` of several items stands for so many, one in the other: each further item is a level of its own
abbrev pub further_levels : Kind → List Part → ℕ
further_levels k parts = if is_with k then item_count parts - 1 else 0

-- how deep row n nests: one deeper than the deepest row that it names, and its further levels
abbrev pub whole_depth : ℕ → Kind → List Part → List Row → Result ℕ RowsError
whole_depth n k parts rows =
    depth_of n parts rows >>= λ depth. where_holds (nat_lt (depth + further_levels k parts) (2 ^ 10)) (TooDeep n) (depth + further_levels k parts)

-- the rows with row n
abbrev pub add_row : ℕ → Kind → ℕ → List Part → Nodes → Result Nodes RowsError
add_row n k index parts nodes = whole_depth n k parts nodes.rows >>= λ depth. Ok (record nodes { rows = nodes.rows ++ record { sort = sort_of k; depth = depth; index = index } ∷ [] })

-- row n, after the rows before it: it takes the nodes of the rows that it names
abbrev pub row_read : ℕ → Data → Nodes → Result Nodes RowsError
row_read n row nodes = outline n row nodes.rows >>= λ (kind, fields, parts). make n kind fields nodes >>= λ (index, nodes). add_row n kind index parts nodes

-- these rows, of which the first is row n, after the rows before them
abbrev pub rows_from : ℕ → Items → Nodes → Result Nodes RowsError
rows_from n no_items nodes = Ok nodes
rows_from n (item row rows) nodes = row_read n row nodes >>= rows_from (n + 1) rows

abbrev pub is_program : Sort → Bool
is_program sort.Mod = true
is_program s = false

abbrev pub ends_in_program : List Row → Bool
ends_in_program rows = option_map_or (λ r. is_program r.sort) (slice_get rows (length rows - 1)) false

-- the lowest row before the last that no row has named
abbrev pub first_left : Nodes → Option ℕ
first_left nodes = position (λ r. is_left r.sort r.index nodes) (take (length nodes.rows - 1) nodes.rows)

abbrev pub none_left : Option ℕ → Result (Unit {0}) RowsError
none_left None = Ok tt
none_left (Some row) = Err (NotNamed row)

-- the last row is a program, and some row has named each other
abbrev pub whole : Nodes → Result tree.Mod RowsError
whole nodes = where_holds {A = Unit {0}} (ends_in_program nodes.rows) NoMod tt >>= λ _. none_left (first_left nodes) >>= λ _. or_fault NoMod nodes.program

-- the tree whose rows the bytes are, or the first thing that is wrong with them
abbrev pub rows_tree : List ℕ → Result tree.Mod RowsError
rows_tree bytes = json_of bytes >>= rows_in >>= λ rows. rows_from 0 rows no_nodes >>= whole
