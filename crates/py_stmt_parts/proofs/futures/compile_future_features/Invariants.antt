use Rattle.std.proofs.Common.{◌≡◌, drop}
use Rattle.py_emission_parts.specs.Running.{run}
use Rattle.py_emission.specs.EmissionFutures.{check_features}
use Rattle.py_emit.specs.States.{rest, state}
use Rattle.py_stmt_parts.proofs.futures.compile_future_features.Given as goal

abbrev pub invariant-loop-alias : goal.invariant-loop-alias
invariant-loop-alias l = (rest l.em ≡ rest l.initial.em) × (run (check_features l.names) (state l.initial.em) ≡ run (check_features (drop l.alias-index l.names)) (state l.em))
