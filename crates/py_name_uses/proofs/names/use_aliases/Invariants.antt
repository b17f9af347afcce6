use Rattle.std.proofs.Common.{◌≡◌, drop}
use Rattle.py_name_uses.specs.Goes.{state}
use Rattle.py_name_uses.specs.Parts.{use_aliases}
use Rattle.py_name_uses.proofs.names.use_aliases.Given as goal

abbrev pub invariant-loop-alias : goal.invariant-loop-alias
invariant-loop-alias l = use_aliases l.names l.at (state l.initial.scan) ≡ use_aliases (drop l.alias-index l.names) l.at (state l.scan)
