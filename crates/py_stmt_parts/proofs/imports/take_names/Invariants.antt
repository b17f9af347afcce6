use Rattle.std.proofs.Common.{◌≡◌, drop}
use Rattle.py_emission_parts.specs.Running.{run}
use Rattle.py_emission.specs.EmissionImports.{emission_of_names}
use Rattle.py_emit.specs.States.{rest, state}
use Rattle.py_stmt_parts.proofs.imports.take_names.Given as goal

abbrev pub invariant-loop-alias : goal.invariant-loop-alias
invariant-loop-alias l = (rest l.em ≡ rest l.initial.em) × (run (emission_of_names l.names) (state l.initial.em) ≡ run (emission_of_names (drop l.alias-index l.names)) (state l.em))
