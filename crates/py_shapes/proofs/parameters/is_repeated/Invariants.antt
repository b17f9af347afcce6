use Rattle.std.proofs.Common.{drop, ◌≡◌}
use Rattle.std.specs.Option.{option_copied}
use Rattle.py_tree.specs.View as view
use Rattle.py_shapes.specs.Parameters.{args_names, has_repeat}
use Rattle.py_shapes.proofs.parameters.is_repeated.Given as goal

abbrev pub invariant-loop-i : goal.invariant-loop-i
invariant-loop-i l = has_repeat (args_names (option_copied l.class) (view.args view.expr_tree (drop l.i l.items))) ≡ has_repeat (args_names (option_copied l.class) (view.args view.expr_tree l.items))
