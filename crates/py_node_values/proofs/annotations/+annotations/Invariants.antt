use Rattle.std.proofs.Common.{◌≡◌, ◌+◌, ◌*◌, drop}
use Rattle.py_tree.specs.View.{stmt_tree, stmts}
use Rattle.py_emission.specs.Predicates.{any_annotates}
use Rattle.py_node_values.proofs.annotations.+annotations.Given as goal

abbrev pub invariant-has_annotation-loop-statement : goal.invariant-has_annotation-loop-statement
invariant-has_annotation-loop-statement l = any_annotates (stmts stmt_tree l.body) ≡ any_annotates (stmts stmt_tree (drop l.statement-index l.body))

abbrev pub decreases-annotates : goal.decreases-annotates
decreases-annotates l = 4 * goal.size-annotates l

abbrev pub decreases-has_annotation : goal.decreases-has_annotation
decreases-has_annotation l = 4 * goal.size-has_annotation l + 1
