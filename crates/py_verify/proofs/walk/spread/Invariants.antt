use Rattle.std.proofs.Common.{◌≡◌}
use Rattle.py_bytecode.specs.View.{object}
use Rattle.py_dataflow.specs.Known.{missing_marks, unknown}
use Rattle.py_dataflow.specs.Shown.{Grows}
use Rattle.py_verify.specs.Stepping.{IsWorking}
use Rattle.py_verify.proofs.walk.spread.Given as goal

abbrev pub invariant-loop : goal.invariant-loop
invariant-loop l = record {
  working : IsWorking (object l.code) l.progress;
  grows : Grows l.initial.progress.states.items l.progress.states.items;
  unknown_as_before : unknown l.progress.states.items ≡ unknown l.initial.progress.states.items;
}

abbrev pub decreases-loop : goal.decreases-loop
decreases-loop l = missing_marks l.progress.states.items
