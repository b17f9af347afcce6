use Rattle.std.proofs.Common.{length}
use Rattle.py_dataflow.specs.Known.{unknown}
use Rattle.py_dataflow.specs.Shown.{AllShown, Grows}
use Rattle.py_dataflow.specs.Flat.{look_at}
use Rattle.py_dataflow.proofs.walk.spread_all.Given as goal

abbrev pub invariant-loop : goal.invariant-loop
invariant-loop l = record {
  shown : AllShown (look_at l.starts l.items) (length l.items) l.states;
  grows : Grows l.initial.states l.states;
}

abbrev pub decreases-loop : goal.decreases-loop
decreases-loop l = unknown l.states
