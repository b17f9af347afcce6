use Rattle.std.proofs.Common.{drop, ◌≡◌, ◌+◌, ◌≤◌, length}
use Rattle.py_tree.specs.Parameters.{defaults_of}
use Rattle.py_tree.proofs.arguments.count_defaults.Given as goal

abbrev pub invariant-loop-item : goal.invariant-loop-item
invariant-loop-item l = (l.count + length (defaults_of (drop l.item-index l.items)) ≡ length (defaults_of l.items)) × (l.count ≤ l.item-index)
