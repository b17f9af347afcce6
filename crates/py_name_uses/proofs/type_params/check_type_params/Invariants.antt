use Rattle.std.proofs.Common.{◌≡◌, drop}
use Rattle.py_tree.specs.View.{type_params}
use Rattle.py_name_uses.specs.Goes.{state}
use Rattle.py_name_uses.specs.Parts.{check_type_params}
use Rattle.py_name_uses.proofs.type_params.check_type_params.Given as goal

abbrev pub invariant-loop-param : goal.invariant-loop-param
invariant-loop-param l = check_type_params (type_params l.params) (state l.scan) ≡ check_type_params (type_params (drop l.param-index l.params)) (state l.scan)
