use Rattle.std.proofs.Common.{drop, ◌≡◌, ◌≤◌, max}
use Rattle.py_limits.specs.Nesting.{type_params_nesting}
use Rattle.py_tree.specs.View as view
use Rattle.py_limits.proofs.depth_parts.type_params_depth.Given as goal

abbrev pub invariant-loop-item : goal.invariant-loop-item
invariant-loop-item l = (max l.deepest (type_params_nesting (view.type_params (drop l.item-index l.items))) ≡ type_params_nesting (view.type_params l.items)) × (l.deepest ≤ l.most)
