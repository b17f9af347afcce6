use Rattle.std.proofs.Common.{◌≡◌, drop}
use Rattle.py_emission.specs.Imports.{takes_all}
use Rattle.py_node_values.proofs.paths.has_star.Given as goal

abbrev pub invariant-loop-alias : goal.invariant-loop-alias
invariant-loop-alias l = takes_all l.names ≡ takes_all (drop l.alias-index l.names)
