use Rattle.std.proofs.Common.{◌≡◌, drop}
use Rattle.py_tree.specs.View.{args, expr_tree}
use Rattle.py_name_uses.specs.Parts.{has_default}
use Rattle.py_name_uses.proofs.type_params.has_default.Given as goal

abbrev pub invariant-loop-param : goal.invariant-loop-param
invariant-loop-param l = has_default (args expr_tree l.params) ≡ has_default (args expr_tree (drop l.param-index l.params))
