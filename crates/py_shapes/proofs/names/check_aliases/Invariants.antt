use Rattle.std.proofs.Common.{drop, ◌≡◌}
use Rattle.py_shapes.specs.Valid.{first_malformed, aliases_shapes}
use Rattle.py_shapes.proofs.names.check_aliases.Given as goal

abbrev pub invariant-loop-alias : goal.invariant-loop-alias
invariant-loop-alias l = first_malformed (aliases_shapes (drop l.alias-index l.names)) ≡ first_malformed (aliases_shapes l.names)
