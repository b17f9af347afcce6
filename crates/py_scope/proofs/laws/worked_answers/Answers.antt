use Rattle.std.proofs.Common.{refl}
use Rattle.py_scope.proofs.laws.worked_answers.Goals as goal

pub returns : goal.returns
returns c = record {
  closure = refl;
  passing_class = refl;
  walrus_in_function = refl;
  walrus_in_module = refl;
  class_without_use = refl;
  class_with_global = refl;
  shared_name = refl;
  nonlocal_walrus = refl;
  global_walrus = refl;
  walrus_nested = refl;
}
