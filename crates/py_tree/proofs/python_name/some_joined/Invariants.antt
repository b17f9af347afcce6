use Rattle.std.proofs.Common.{drop, ◌≡◌}
use Rattle.py_tree.specs.PythonName.{some_joined}
use Rattle.py_tree.specs.View.{expr_tree, exprs}
use Rattle.py_tree.proofs.python_name.some_joined.Given as goal

abbrev pub invariant-loop-value : goal.invariant-loop-value
invariant-loop-value l = some_joined (exprs expr_tree (drop l.value-index l.values)) ≡ some_joined (exprs expr_tree l.values)
