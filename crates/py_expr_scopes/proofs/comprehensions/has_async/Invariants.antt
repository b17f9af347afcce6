use Rattle.std.proofs.Common.{◌≡◌, drop}
use Rattle.py_tree.specs.View.{expr_tree, generators}
use Rattle.py_emission.specs.Awaits.{some_async}
use Rattle.py_expr_scopes.proofs.comprehensions.has_async.Given as goal

abbrev pub invariant-loop-clause : goal.invariant-loop-clause
invariant-loop-clause l = some_async (generators expr_tree l.generators) ≡ some_async (generators expr_tree (drop l.clause-index l.generators))
