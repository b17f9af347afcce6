use Rattle.std.proofs.Common.{◌≡◌, ◌++◌, drop}
use Rattle.py_well_formed.specs.Lines.{lines_from, lines_of}
use Rattle.py_well_formed.proofs.lines.lines_of.Given as goal

abbrev pub invariant-loop-place : goal.invariant-loop-place
invariant-loop-place l = l.lines.items ++ lines_from (record { high = l.high; start = l.start; place = l.place }) (drop l.place l.units) ≡ lines_of l.units
