use Rattle.std.proofs.Common.{drop, ◌≡◌, ◌≤◌, ◌+◌, ◌*◌}
use Rattle.py_limits.specs.Size.{literals_size}
use Rattle.py_tree.specs.View.{literal_list, literal_of}
use Rattle.py_limits.proofs.size_exprs.+constant.Given as goal

abbrev pub invariant-after_constants-loop-item : goal.invariant-after_constants-loop-item
invariant-after_constants-loop-item l = (l.room + literals_size (literal_list literal_of (drop l.item-index l.items)) ≡ l.left + literals_size (literal_list literal_of l.items)) × (l.left ≤ l.room)

-- each constant takes some of the room
abbrev pub decreases-after_constant : goal.decreases-after_constant
decreases-after_constant l = 2 * l.room

abbrev pub decreases-after_constants : goal.decreases-after_constants
decreases-after_constants l = 2 * l.room + 1
