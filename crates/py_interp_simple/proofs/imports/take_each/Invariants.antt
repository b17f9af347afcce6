use Rattle.std.proofs.Common.{◌≡◌, drop}
use Rattle.py_answers.specs.Log.{world_of}
use Rattle.py_answers.specs.Told.{value_of}
use Rattle.py_interp.specs.Acting.{take_each}
use Rattle.py_interp_simple.proofs.imports.take_each.Given as goal

abbrev pub invariant-loop-alias : goal.invariant-loop-alias
invariant-loop-alias l = take_each l.names (value_of l.source) (world_of l.initial.log) ≡ take_each (drop l.alias-index l.names) (value_of l.source) (world_of l.log)
