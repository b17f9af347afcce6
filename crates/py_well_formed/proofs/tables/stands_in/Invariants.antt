use Rattle.std.proofs.Common.{◌≡◌, drop}
use Rattle.py_well_formed.specs.Tables.{stands_in}
use Rattle.py_well_formed.proofs.tables.stands_in.Given as goal

abbrev pub invariant-loop-other : goal.invariant-loop-other
invariant-loop-other l = stands_in (drop l.other-index l.names) l.name ≡ stands_in l.names l.name
