use Rattle.std.proofs.Common.{◌≡◌, take}
use Rattle.py_layout.specs.Written.{needs_of}
use Rattle.py_layout.proofs.units.needs.Given as goal

abbrev pub invariant-loop-item : goal.invariant-loop-item
invariant-loop-item l = l.needs.items ≡ needs_of l.starts (take l.item-index l.items)
