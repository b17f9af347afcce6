use Rattle.std.proofs.Common.{◌≡◌, drop}
use Rattle.py_well_formed.specs.Tables.{repeats}
use Rattle.py_well_formed.proofs.tables.repeats.Given as goal

abbrev pub invariant-loop-i : goal.invariant-loop-i
invariant-loop-i l = repeats (drop l.i l.names) ≡ repeats l.names
