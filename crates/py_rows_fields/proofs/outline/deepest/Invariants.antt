use Rattle.std.proofs.Common.{◌≡◌, max, drop}
use Rattle.py_rows_fields.specs.Outline.{deepest}
use Rattle.py_rows_fields.proofs.outline.deepest.Given as goal

abbrev pub invariant-loop-part : goal.invariant-loop-part
invariant-loop-part l = max (deepest l.rows (drop l.part-index l.parts)) l.deepest ≡ deepest l.rows l.parts
