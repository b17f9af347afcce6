use Rattle.std.proofs.Common.{drop}
use Rattle.py_dataflow.specs.Walks.{Alike}
use Rattle.py_dataflow.proofs.shape.are_alike.Given as goal

abbrev pub invariant-loop-i : goal.invariant-loop-i
invariant-loop-i l = record { there : Alike l.mine l.theirs → Alike (drop l.i l.mine) (drop l.i l.theirs); back : Alike (drop l.i l.mine) (drop l.i l.theirs) → Alike l.mine l.theirs }
