use Rattle.std.proofs.Common.{◌≡◌, drop}
use Rattle.py_answers.specs.Log.{world_of}
use Rattle.py_interp.specs.Acting.{import_all}
use Rattle.py_interp_simple.proofs.imports.import_all.Given as goal

abbrev pub invariant-loop-alias : goal.invariant-loop-alias
invariant-loop-alias l = import_all l.names (world_of l.initial.log) ≡ import_all (drop l.alias-index l.names) (world_of l.log)
