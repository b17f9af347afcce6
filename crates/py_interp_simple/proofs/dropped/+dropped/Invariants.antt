use Rattle.std.proofs.Common.{◌≡◌, ◌+◌, ◌*◌, drop}
use Rattle.py_tree.specs.View.{expr_tree, exprs}
use Rattle.py_answers.specs.Log.{world_of}
use Rattle.py_interp.specs.Doing.{shorts}
use Rattle.py_interp.specs.Walks.{all_walks}
use Rattle.py_interp_simple.proofs.dropped.+dropped.Given as goal

abbrev pub invariant-walk_dropped_shorts-loop-i : goal.invariant-walk_dropped_shorts-loop-i
invariant-walk_dropped_shorts-loop-i l =
    shorts l.decides (all_walks l.around (exprs expr_tree l.values)) (world_of l.initial.log)
    ≡ shorts l.decides (all_walks l.around (exprs expr_tree (drop l.i l.values))) (world_of l.log)

abbrev pub decreases-walk_dropped : goal.decreases-walk_dropped
decreases-walk_dropped l = 4 * goal.size-walk_dropped l + 1

abbrev pub decreases-walk_dropped_branch : goal.decreases-walk_dropped_branch
decreases-walk_dropped_branch l = 4 * goal.size-walk_dropped_branch l + 2

abbrev pub decreases-walk_dropped_shorts : goal.decreases-walk_dropped_shorts
decreases-walk_dropped_shorts l = 4 * goal.size-walk_dropped_shorts l + 2
