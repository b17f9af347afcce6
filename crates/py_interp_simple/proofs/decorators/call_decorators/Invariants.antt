use Rattle.std.proofs.Common.{◌≡◌, vec_len}
use Rattle.py_answers.specs.Log.{world_of}
use Rattle.py_answers.specs.Told.{value_of, values_of}
use Rattle.py_interp_simple.specs.Parts.{called_by}
use Rattle.py_interp_simple.proofs.decorators.call_decorators.Given as goal

abbrev pub invariant-loop-decorator : goal.invariant-loop-decorator
invariant-loop-decorator l =
    called_by (values_of l.initial.left.items) (value_of l.initial.value) (world_of l.initial.log)
    ≡ called_by (values_of l.left.items) (value_of l.value) (world_of l.log)

abbrev pub decreases-loop-decorator : goal.decreases-loop-decorator
decreases-loop-decorator l = vec_len l.left
