use Rattle.std.proofs.Common.{◌≡◌, ◌+◌, ◌≤◌, ◌++◌, vec_len, vec_capacity}
use Rattle.py_layout.specs.Written.{units_of}
use Rattle.py_layout.proofs.units.put_all.Given as goal

abbrev pub invariant-loop-left : goal.invariant-loop-left
invariant-loop-left l = record {
  left : 1 ≤ l.left;
  within : l.left ≤ l.width;
  items : l.units.items ++ units_of l.op l.operand l.left ≡ l.initial.units.items ++ units_of l.op l.operand l.width;
  len : vec_len l.units + l.left ≡ vec_len l.initial.units + l.width;
  capacity : vec_capacity l.initial.units ≤ vec_capacity l.units;
}

abbrev pub decreases-loop-left : goal.decreases-loop-left
decreases-loop-left l = l.left
