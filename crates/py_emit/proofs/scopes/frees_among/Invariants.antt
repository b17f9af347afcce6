use Rattle.std.proofs.Common.{◌≡◌, take}
use Rattle.py_emission_parts.specs.Context.{frees_among}
use Rattle.py_emit.proofs.scopes.frees_among.Given as goal

abbrev pub invariant-loop-i : goal.invariant-loop-i
invariant-loop-i l = l.names ≡ frees_among (take l.i l.symbols)
