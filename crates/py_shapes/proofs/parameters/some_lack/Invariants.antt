use Rattle.std.proofs.Common.{drop, ◌≡◌, not}
use Rattle.std.specs.List.{list_any}
use Rattle.py_tree.specs.View as view
use Rattle.py_shapes.specs.Parameters.{defaults}
use Rattle.py_shapes.proofs.parameters.some_lack.Given as goal

abbrev pub invariant-loop-item : goal.invariant-loop-item
invariant-loop-item l = list_any not (defaults (view.args view.expr_tree (drop l.item-index l.items))) ≡ list_any not (defaults (view.args view.expr_tree l.items))
