use Rattle.std.proofs.Common.{◌≡◌, vec_len}
use Rattle.py_bytecode.specs.View.{object}
use Rattle.py_verify.specs.Stepping.{IsWorking}
use Rattle.py_verify.proofs.walk.advance.Given as goal

abbrev pub invariant-loop-unit : goal.invariant-loop-unit
invariant-loop-unit l = record {
  working : IsWorking (object l.code) l.progress;
  same : l.progress.states.items ≡ l.initial.progress.states.items;
}

abbrev pub decreases-loop-unit : goal.decreases-loop-unit
decreases-loop-unit l = vec_len l.progress.work
