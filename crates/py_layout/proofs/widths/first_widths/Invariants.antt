use Rattle.std.proofs.Common.{map, take, ◌≡◌}
use Rattle.py_layout.specs.Widths.{narrowest}
use Rattle.py_layout.proofs.widths.first_widths.Given as goal

abbrev pub invariant-loop-need : goal.invariant-loop-need
invariant-loop-need l = l.widths.items ≡ map narrowest (take l.need-index l.needs)
