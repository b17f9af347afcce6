use Rattle.std.proofs.Common.{◌≡◌, ◌<◌, drop}
use Rattle.py_dataflow.specs.Known.{join, missing_in}
use Rattle.py_dataflow.proofs.shape.adds_mark.Given as goal

abbrev pub invariant-loop-i : goal.invariant-loop-i
invariant-loop-i l = record {
  same : join (drop l.i l.mine) (drop l.i l.theirs) ≡ drop l.i l.mine → join l.mine l.theirs ≡ l.mine;
  fewer : missing_in (join (drop l.i l.mine) (drop l.i l.theirs)) < missing_in (drop l.i l.mine) → missing_in (join l.mine l.theirs) < missing_in l.mine;
}
