use Rattle.std.proofs.Common.{◌≡◌, drop}
use Rattle.py_bytecode.specs.View.{constants_of}
use Rattle.py_sample.specs.Summary.{with_all}
use Rattle.py_sample.proofs.counting.+summary.Given as goal

abbrev pub invariant-with_all-loop-item : goal.invariant-with_all-loop-item
invariant-with_all-loop-item l = with_all l.all (constants_of (drop l.item-index l.constants)) ≡ with_all l.initial.all (constants_of l.constants)
