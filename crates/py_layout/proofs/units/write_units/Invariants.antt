use Rattle.std.proofs.Common.{◌≡◌, ◌≤◌, take, sum, vec_len, vec_capacity}
use Rattle.py_layout.specs.Widths.{offset}
use Rattle.py_layout.specs.Written.{operand_in, written_units}
use Rattle.py_layout.proofs.units.write_units.Given as goal

abbrev pub invariant-loop-k : goal.invariant-loop-k
invariant-loop-k l = record {
  items : l.units.items ≡ written_units (operand_in l.starts l.widths) (take l.k l.items) (take l.k l.widths);
  len : vec_len l.units ≡ offset l.widths l.k;
  capacity : sum l.widths ≤ vec_capacity l.units;
}
