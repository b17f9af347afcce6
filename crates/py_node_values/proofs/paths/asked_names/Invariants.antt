use Rattle.std.proofs.Common.{◌≡◌, ◌++◌, drop, map}
use Rattle.py_tree.specs.declared.statements.Alias.{Alias}
use Rattle.py_bytecode.specs.Objects.{str}
use Rattle.py_bytecode.specs.View.{constant}
use Rattle.py_node_values.proofs.paths.asked_names.Given as goal

abbrev pub invariant-loop-alias : goal.invariant-loop-alias
invariant-loop-alias l = map (λ (a : Alias). str a.name) l.names ≡ map constant l.texts.items ++ map (λ (a : Alias). str a.name) (drop l.alias-index l.names)
