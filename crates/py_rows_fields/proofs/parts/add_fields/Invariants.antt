use Rattle.std.proofs.Common.{◌≡◌, drop}
use Rattle.serde_json.specs.View.{items_view}
use Rattle.py_rows_fields.specs.Parts.{parts_by}
use Rattle.py_rows_fields.proofs.parts.add_fields.Given as goal

abbrev pub invariant-loop-field : goal.invariant-loop-field
invariant-loop-field l = parts_by l.row (drop l.field-index l.table) (items_view l.rest) l.parts.items ≡ parts_by l.row l.table (items_view l.fields) l.initial.parts.items
