use Rattle.std.proofs.Common.{◌≡◌, ◌+◌, ◌≤◌, ◌++◌, replicate, vec_len, vec_capacity}
use Rattle.py_layout.proofs.units.put_locations.Given as goal

abbrev pub invariant-loop : goal.invariant-loop
invariant-loop l = record {
  items : l.locations.items ≡ l.initial.locations.items ++ replicate l.counter l.location;
  len : vec_len l.locations ≡ vec_len l.initial.locations + l.counter;
  capacity : vec_capacity l.initial.locations ≤ vec_capacity l.locations;
}
