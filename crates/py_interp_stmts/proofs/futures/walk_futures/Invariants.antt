use Rattle.std.proofs.Common.{◌≡◌, ◌≤◌, ◌-◌, drop, length}
use Rattle.py_tree.specs.Tree as tree
use Rattle.py_tree.specs.View.{stmt_tree, stmts}
use Rattle.py_answers.specs.Log.{world_of}
use Rattle.py_interp.specs.declared.around.Around.{Around}
use Rattle.py_interp.specs.Acting.{Acting}
use Rattle.py_interp.specs.Statements.{behind_futures}
use Rattle.py_interp_stmts.proofs.futures.walk_futures.Given as goal

abbrev pub invariant-loop-s : goal.invariant-loop-s
invariant-loop-s l =
    (l.count ≤ length l.body)
    × ((follow : Around → tree.Stmts → Acting) → behind_futures follow l.initial.around (stmts stmt_tree l.body) (world_of l.initial.log) ≡ behind_futures follow l.around (stmts stmt_tree (drop l.count l.body)) (world_of l.log))

abbrev pub decreases-loop-s : goal.decreases-loop-s
decreases-loop-s l = length l.body - l.count
