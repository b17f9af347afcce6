use Rattle.std.proofs.Common.{◌≡◌, drop}
use Rattle.py_dataflow.specs.Walks.{cut_to}
use Rattle.py_dataflow.proofs.shape.cut.Given as goal

abbrev pub invariant-loop-mark : goal.invariant-loop-mark
invariant-loop-mark l = cut_to l.cut (drop l.mark-index l.shape) ≡ cut_to l.height l.shape
