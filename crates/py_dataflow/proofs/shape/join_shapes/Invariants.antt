use Rattle.std.proofs.Common.{◌≡◌, ◌++◌, drop}
use Rattle.py_dataflow.specs.Known.{join}
use Rattle.py_dataflow.proofs.shape.join_shapes.Given as goal

abbrev pub invariant-loop-i : goal.invariant-loop-i
invariant-loop-i l = l.shape.items ++ join (drop l.i l.mine) (drop l.i l.theirs) ≡ join l.mine l.theirs
