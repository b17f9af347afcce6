use Rattle.std.proofs.Common.{◌≡◌, drop}
use Rattle.py_emission_parts.specs.Running.{run}
use Rattle.py_emission.specs.EmissionImports.{emission_of_import}
use Rattle.py_emit.specs.States.{rest, state}
use Rattle.py_stmt_parts.proofs.imports.compile_import.Given as goal

abbrev pub invariant-loop-alias : goal.invariant-loop-alias
invariant-loop-alias l = (rest l.em ≡ rest l.initial.em) × (run (emission_of_import l.names) (state l.initial.em) ≡ run (emission_of_import (drop l.alias-index l.names)) (state l.em))
