use Rattle.std.proofs.Common.{◌≡◌, ◌≤◌, ◌+◌, drop}
use Rattle.py_rows.specs.Rows.{item_count}
use Rattle.py_rows.proofs.depths.item_count.Given as goal

abbrev pub invariant-loop-part : goal.invariant-loop-part
invariant-loop-part l = record {
  counted : item_count (drop l.part-index l.parts) + l.count ≡ item_count l.parts;
  small : l.count ≤ l.part-index;
}
