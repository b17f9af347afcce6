use Rattle.std.proofs.Common.{◌≡◌, drop}
use Rattle.py_tree.specs.View.{args, expr_tree}
use Rattle.py_name_uses.specs.Goes.{state}
use Rattle.py_name_uses.specs.Parts.{use_parameters_in}
use Rattle.py_name_uses.proofs.parameters.use_parameters_in.Given as goal

abbrev pub invariant-loop-param : goal.invariant-loop-param
invariant-loop-param l = use_parameters_in (args expr_tree l.params) (state l.initial.scan) ≡ use_parameters_in (args expr_tree (drop l.param-index l.params)) (state l.scan)
