use Rattle.std.proofs.Common.{◌≡◌, length}
use Rattle.py_dataflow.specs.Known.{missing_marks, unknown}
use Rattle.py_dataflow.specs.Shown.{AllShown, Grows}
use Rattle.py_dataflow.specs.Flat.{look_at}
use Rattle.py_dataflow.proofs.walk.spread.Given as goal

abbrev pub invariant-loop-visited : goal.invariant-loop-visited
invariant-loop-visited l = record {
  shown : AllShown (look_at l.starts l.items) (length l.items) l.states;
  grows : Grows l.initial.states l.states;
  unknown_as_before : unknown l.states ≡ unknown l.initial.states;
}

abbrev pub decreases-loop-visited : goal.decreases-loop-visited
decreases-loop-visited l = missing_marks l.states
