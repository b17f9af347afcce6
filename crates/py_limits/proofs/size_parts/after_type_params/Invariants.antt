use Rattle.std.proofs.Common.{drop, ◌≡◌, ◌≤◌, ◌+◌}
use Rattle.py_limits.specs.Size.{type_params_size}
use Rattle.py_tree.specs.View as view
use Rattle.py_limits.proofs.size_parts.after_type_params.Given as goal

abbrev pub invariant-loop-item : goal.invariant-loop-item
invariant-loop-item l = (l.room + type_params_size (view.type_params (drop l.item-index l.items)) ≡ l.left + type_params_size (view.type_params l.items)) × (l.left ≤ l.room)
