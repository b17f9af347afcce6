use Rattle.std.proofs.Common.{◌≡◌, drop}
use Rattle.py_name_uses.specs.Goes.{state}
use Rattle.py_name_uses.specs.Parts.{use_each}
use Rattle.py_name_uses.proofs.names.use_each.Given as goal

abbrev pub invariant-loop-name : goal.invariant-loop-name
invariant-loop-name l = use_each l.role l.names l.at (state l.initial.scan) ≡ use_each l.role (drop l.name-index l.names) l.at (state l.scan)
