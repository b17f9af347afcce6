use Rattle.std.proofs.Common.{◌≡◌, drop}
use Rattle.serde_json.specs.View.{items_view}
use Rattle.py_rows_fields.specs.Parts.{each_maybe}
use Rattle.py_rows_fields.proofs.parts.add_maybe_nodes.Given as goal

abbrev pub invariant-loop-entry : goal.invariant-loop-entry
invariant-loop-entry l = each_maybe l.row l.sort (items_view (drop l.entry-index l.entry-items)) l.parts.items ≡ each_maybe l.row l.sort (items_view l.entry-items) l.initial.parts.items
