use Rattle.std.proofs.Common.{drop, ◌≡◌}
use Rattle.std.specs.List.{slice_get}
use Rattle.py_tree.specs.Parameters.{params_by_default}
use Rattle.py_tree.proofs.arguments.Arguments.kwonly_at.Given as goal

abbrev pub invariant-loop-item : goal.invariant-loop-item
invariant-loop-item l = slice_get (params_by_default l.with_default (drop l.item-index l.self.kwonlyargs)) l.left ≡ slice_get (params_by_default l.with_default l.self.kwonlyargs) l.i
