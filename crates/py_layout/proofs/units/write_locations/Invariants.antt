use Rattle.std.proofs.Common.{◌≡◌, ◌≤◌, take, sum, vec_len, vec_capacity}
use Rattle.py_layout.specs.Widths.{offset}
use Rattle.py_layout.specs.Written.{unit_locations}
use Rattle.py_layout.proofs.units.write_locations.Given as goal

abbrev pub invariant-loop-k : goal.invariant-loop-k
invariant-loop-k l = record {
  items : l.locations.items ≡ unit_locations (take l.k l.items) (take l.k l.widths);
  len : vec_len l.locations ≡ offset l.widths l.k;
  capacity : sum l.widths ≤ vec_capacity l.locations;
}
