use Rattle.std.proofs.Common.{drop, ◌≡◌, ◌≤◌, ◌+◌}
use Rattle.py_limits.specs.Size.{with_items_size}
use Rattle.py_tree.specs.View as view
use Rattle.py_limits.proofs.size_parts.after_items.Given as goal

abbrev pub invariant-loop-item : goal.invariant-loop-item
invariant-loop-item l = (l.room + with_items_size (view.with_items (drop l.item-index l.items)) ≡ l.left + with_items_size (view.with_items l.items)) × (l.left ≤ l.room)
