use Rattle.std.proofs.Common.{◌≡◌, drop}
use Rattle.py_name_uses.specs.Parts.{names_annotations}
use Rattle.py_name_uses.proofs.names.names_annotations.Given as goal

abbrev pub invariant-loop-alias : goal.invariant-loop-alias
invariant-loop-alias l = names_annotations l.names ≡ names_annotations (drop l.alias-index l.names)
