-- Whether a field that names no row can be read.
use Rattle.std.specs.Prelude.{ℕ, is_some, Result, Ok, if◌then◌else◌}
use Rattle.serde_json.specs.Data.{Data, Items, no_items, item}
use Rattle.serde_json.specs.Find.{as_null}
use Rattle.py_rows_fields.specs.declared.error.RowsError.{RowsError}
use Rattle.py_rows_fields.specs.declared.table.Plain.{Plain}
use Rattle.py_rows_fields.specs.declared.table.Plain.TheVariants as plain
use Rattle.py_rows_fields.specs.Fields.{boolean_at, entries_at, level_at, text_at}
use Rattle.py_rows_fields.specs.Gives.{◌>>=◌}
use Rattle.py_rows_fields.specs.Operators.{bool_operator_at, comparison_at, conversion_at, operator_at, unary_operator_at}

abbrev pub readable : {A : Type 0} → Result A RowsError → Result (Unit {0}) RowsError
readable read = read >>= λ _. Ok tt

abbrev pub maybe_text : ℕ → Data → Result (Unit {0}) RowsError
maybe_text n d = if is_some (as_null d) then Ok tt else readable (text_at n d)

abbrev pub each_text : ℕ → Items → Result (Unit {0}) RowsError
each_text n no_items = Ok tt
each_text n (item d ds) = text_at n d >>= λ _. each_text n ds

abbrev pub each_comparison : ℕ → Items → Result (Unit {0}) RowsError
each_comparison n no_items = Ok tt
each_comparison n (item d ds) = comparison_at n d >>= λ _. each_comparison n ds

abbrev pub plain_at : ℕ → Plain → Data → Result (Unit {0}) RowsError
plain_at n plain.Text d = readable (text_at n d)
plain_at n plain.MaybeText d = maybe_text n d
plain_at n plain.Texts d = entries_at n d >>= each_text n
plain_at n plain.Truth d = readable (boolean_at n d)
plain_at n plain.Level d = readable (level_at n d)
plain_at n plain.BoolOperator d = readable (bool_operator_at n d)
plain_at n plain.Operator d = readable (operator_at n d)
plain_at n plain.UnaryOperator d = readable (unary_operator_at n d)
plain_at n plain.Comparisons d = entries_at n d >>= each_comparison n
plain_at n plain.Conversion d = readable (conversion_at n d)
