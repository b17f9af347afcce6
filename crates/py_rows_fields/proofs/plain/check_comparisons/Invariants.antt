use Rattle.std.proofs.Common.{◌≡◌, drop}
use Rattle.serde_json.specs.View.{items_view}
use Rattle.py_rows_fields.specs.Plain.{each_comparison}
use Rattle.py_rows_fields.proofs.plain.check_comparisons.Given as goal

abbrev pub invariant-loop-entry : goal.invariant-loop-entry
invariant-loop-entry l = each_comparison l.row (items_view (drop l.entry-index l.entry-items)) ≡ each_comparison l.row (items_view l.entry-items)
