use Rattle.py_layout.proofs.WidthGrowthLemmas.{Growing}
use Rattle.py_layout.proofs.widths.grow.Given as goal

abbrev pub invariant-loop-k : goal.invariant-loop-k
invariant-loop-k l = Growing l.needs l.initial.widths l.widths l.k l.grown
