use Rattle.std.proofs.Common.{refl}
use Rattle.py_scope.proofs.laws.worked_programs.Goals as goal

pub returns : goal.returns
returns c = record {
  closure = refl;
  passing_class = refl;
  walrus_in_function = refl;
  walrus_in_module = refl;
  global_parameter = refl;
  iterated_walrus = refl;
  unbound_nonlocal = refl;
  module_nonlocal = refl;
}
