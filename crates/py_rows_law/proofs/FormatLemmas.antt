-- The tree whose rows bytes are, by the table and by the reader.
use Rattle.std.proofs.Common.{◌≡◌, refl, sym, ap, ◌∙◌, ℕ, ◌+◌, List, [], length, true≢false, Option, Some, None, Result, Ok, Err}
use Rattle.std.specs.Prelude.{if◌then◌else◌, ok_or}
use Rattle.std.specs.Str.{is_utf8}
use Rattle.serde_json.specs.Data.{Data, Items, no_items, item}
use Rattle.serde_json.specs.Find.{as_array}
use Rattle.serde_json.specs.Read.{read}
use Rattle.py_rows_fields.specs.declared.error.RowsError.{RowsError}
use Rattle.py_rows_fields.specs.declared.error.RowsError.TheVariants.{NotJson, NotRows}
use Rattle.py_rows_fields.specs.Gives.{or_fault, ◌>>=◌}
use Rattle.py_rows_fields.specs.JsonRows.{rows_in, some_rows}
use Rattle.py_rows_format.specs.Making.{Made}
use Rattle.py_rows_format.specs.Rows as law
use Rattle.py_rows.specs.Rows as reader
use Rattle.py_rows_slots.specs.Nodes.{Nodes, no_nodes}
use Rattle.py_rows_law.proofs.EndLemmas.{end_alike}
use Rattle.py_rows_law.proofs.StepLemmas.{Both, SoFar, step_alike}

rows_alike : (ds : Items) (rows : List Made) (nodes : Nodes) → SoFar rows nodes → (law.with_rows rows ds >>= law.program) ≡ (reader.rows_from (length rows) ds nodes >>= reader.whole)
rows_alike no_items rows nodes far = end_alike rows nodes far
rows_alike (item d ds) rows nodes far = by (law.with_row rows d) (reader.row_read (length rows) d nodes) (step_alike rows nodes far.0 d) (rows_alike ds)
  where
    by : (r : Result (List Made) RowsError) (s : Result Nodes RowsError) → Both (length rows) r s
        → ((rows : List Made) (nodes : Nodes) → SoFar rows nodes → (law.with_rows rows ds >>= law.program) ≡ (reader.rows_from (length rows) ds nodes >>= reader.whole))
        → ((r >>= λ more. law.with_rows more ds) >>= law.program) ≡ ((s >>= reader.rows_from (length rows + 1) ds) >>= reader.whole)
    by (Ok more) (Ok nodes) both rest = rest more nodes both.0 ∙ ap (λ n. reader.rows_from n ds nodes >>= reader.whole) both.1
    by (Err e) (Err f) both rest = ap Err both
    by (Ok more) (Err f) both rest = absurd both
    by (Err e) (Ok nodes) both rest = absurd both

start : SoFar [] no_nodes
start = (
  record {
    same = record { counted = refl; alike = λ k. tt; apart = λ j k p q e f g h i. absurd (cc) };
    earlier = λ k e. absurd (true≢false (sym e));
    unnamed = λ k x e. refl;
    lists = λ s part k x r e f. absurd (cc);
  },
  λ x e. absurd (cc),
)

tree_alike : (d : Data) → law.tree_of d ≡ (rows_in d >>= λ rows. reader.rows_from 0 rows no_nodes >>= reader.whole)
tree_alike d = by (as_array d)
  where
    by : (o : Option Items) → (law.rows_of o >>= λ rows. law.with_rows [] rows >>= law.program) ≡ ((or_fault NotRows o >>= some_rows) >>= λ rows. reader.rows_from 0 rows no_nodes >>= reader.whole)
    by None = refl
    by (Some no_items) = refl
    by (Some (item d ds)) = rows_alike (item d ds) [] no_nodes start

-- the format and the reader have the same tree, or the same error
pub rows_tree_is : (bytes : List ℕ) → law.rows_tree bytes ≡ reader.rows_tree bytes
rows_tree_is bytes = by (if is_utf8 bytes then read bytes else None)
  where
    by : (o : Option Data) → (ok_or o NotJson >>= law.tree_of) ≡ ((or_fault NotJson o >>= rows_in) >>= λ rows. reader.rows_from 0 rows no_nodes >>= reader.whole)
    by None = refl
    by (Some d) = tree_alike d
