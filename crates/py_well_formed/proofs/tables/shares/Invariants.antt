use Rattle.std.proofs.Common.{◌≡◌, drop}
use Rattle.py_well_formed.specs.Tables.{shares}
use Rattle.py_well_formed.proofs.tables.shares.Given as goal

abbrev pub invariant-loop-name : goal.invariant-loop-name
invariant-loop-name l = shares (drop l.name-index l.names) l.others ≡ shares l.names l.others
