use Rattle.std.proofs.Common.{drop, ◌≡◌}
use Rattle.std.specs.List.{slice_get}
use Rattle.py_tree.specs.Parameters.{defaults_of}
use Rattle.py_tree.proofs.arguments.nth_default.Given as goal

abbrev pub invariant-loop-item : goal.invariant-loop-item
invariant-loop-item l = slice_get (defaults_of (drop l.item-index l.items)) l.left ≡ slice_get (defaults_of l.items) l.i
