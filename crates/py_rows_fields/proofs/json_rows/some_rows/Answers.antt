use Rattle.std.proofs.Common.{◌≡◌, ◌<◌, List, [], ◌∷◌, length, Ok, refl, arith}
use Rattle.serde_json.specs.View.{items_view}
use Rattle.serde_json.specs.declared.value.Value.{Value}
use Rattle.py_rows_fields.specs.JsonRows.{some_rows}
use Rattle.py_rows_fields.proofs.json_rows.some_rows.Goals as goal

found : (rows : List Value) → 0 < length rows → some_rows (items_view rows) ≡ Ok (items_view rows)
found [] h = absurd (omega arith)
found (row ∷ rows) h = refl

pub returns : goal.returns
returns c = found c.args.rows.items (grind arith)
