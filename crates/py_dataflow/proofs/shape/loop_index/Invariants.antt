use Rattle.std.proofs.Common.{◌≡◌, drop}
use Rattle.py_dataflow.specs.Walks.{from_loop}
use Rattle.py_dataflow.proofs.shape.loop_index.Given as goal

abbrev pub invariant-loop-i : goal.invariant-loop-i
invariant-loop-i l = from_loop (drop l.i l.shape) ≡ from_loop l.shape
