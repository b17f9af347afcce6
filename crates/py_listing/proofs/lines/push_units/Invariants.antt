use Rattle.std.proofs.Common.{◌≡◌, ◌++◌, string_bytes, drop}
use Rattle.py_listing.specs.Listing.{unit_lines}
use Rattle.py_bytecode.specs.View.{object}
use Rattle.py_listing.proofs.lines.push_units.Given as goal

abbrev pub invariant-loop-at : goal.invariant-loop-at
invariant-loop-at l = string_bytes l.out ++ unit_lines (object l.code) l.at l.high (drop l.at l.units) ≡ string_bytes l.initial.out ++ unit_lines (object l.code) 0 0 l.units
