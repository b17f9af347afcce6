use Rattle.std.proofs.Common.{◌≡◌, map, take}
use Rattle.py_bytecode.specs.View.{constant}
use Rattle.py_answers.proofs.copies.+copy.Given as goal

abbrev pub invariant-copy_constants-loop-item : goal.invariant-copy_constants-loop-item
invariant-copy_constants-loop-item l = map constant l.copies.items ≡ map constant (take l.item-index l.items)
