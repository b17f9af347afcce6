use Rattle.std.proofs.Common.{◌≡◌, length}
use Rattle.py_emit.specs.States.{rest, state}
use Rattle.py_expr_scopes.specs.Clauses.{AllOpen, closed_clauses}
use Rattle.py_expr_scopes.proofs.clauses.close_clauses.Given as goal

abbrev pub invariant-loop-clause : goal.invariant-loop-clause
invariant-loop-clause l = (rest l.em ≡ rest l.initial.em) × AllOpen l.blocks (state l.em) × (closed_clauses l.initial.blocks (state l.initial.em) ≡ closed_clauses l.blocks (state l.em))

abbrev pub decreases-loop-clause : goal.decreases-loop-clause
decreases-loop-clause l = length l.blocks
