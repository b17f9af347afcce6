use Rattle.std.proofs.Common.{drop}
use Rattle.py_dataflow.specs.Known.{Torn}
use Rattle.py_dataflow.proofs.shape.is_torn.Given as goal

abbrev pub invariant-loop-mark : goal.invariant-loop-mark
invariant-loop-mark l = record { there : Torn l.shape → Torn (drop l.mark-index l.shape); back : Torn (drop l.mark-index l.shape) → Torn l.shape }
