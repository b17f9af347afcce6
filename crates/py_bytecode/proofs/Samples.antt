-- The definitions run on the code of `f(a + 1)`.
use Rattle.std.proofs.Common.{◌≡◌, refl, ℕ, List, [], ◌∷◌, Some, None, pos, codes}
use Rattle.py_bytecode.specs.declared.instruction.Instruction.TheVariants as op
use Rattle.py_bytecode.specs.Objects as obj
use Rattle.py_bytecode.specs.Objects.{Object, Head, Const}
use Rattle.py_bytecode.specs.Values.{Constant, Given, Gives, Raised, Event, Operates, Accesses, ByName, Load, Number, operation, ran, It, Returned, RaisedOut, Stopped}
use Rattle.py_bytecode.specs.Units.{machine}

abbrev sample_sum_called : Object
sample_sum_called = obj.object_of (record {
  flags = 1;
  posonlyarg_count = 0;
  arg_count = 0;
  kwonlyarg_count = 0;
  source_path = codes "m.py";
  first_line_number = Some 1;
  obj_name = codes "<module>";
  max_stackdepth = 3;
  instructions = record { op = op.LoadNameAny; arg = 0 } ∷ record { op = op.LoadNameAny; arg = 1 } ∷ record { op = op.LoadConst; arg = 0 } ∷ record { op = op.BinaryOperation; arg = 0 } ∷ record { op = op.CallFunctionPositional; arg = 1 } ∷ record { op = op.Pop; arg = 0 } ∷ record { op = op.ReturnConst; arg = 1 } ∷ [];
  locations = record { row = 1; column = 1 } ∷ record { row = 1; column = 3 } ∷ record { row = 1; column = 7 } ∷ record { row = 1; column = 7 } ∷ record { row = 1; column = 7 } ∷ record { row = 1; column = 7 } ∷ record { row = 1; column = 7 } ∷ [];
  names = codes "f" ∷ codes "a" ∷ [];
  varnames = [];
  cellvars = [];
  freevars = [];
  cell2arg = None;
}) (obj.consts_of (obj.integer (pos 1) ∷ obj.none ∷ []))

abbrev sample_loads : List ℕ → Event Object
sample_loads n = Accesses ByName Load n 0 []

abbrev sample_adds : Event Object
sample_adds = Operates (operation op.BinaryOperation (Number 0)) (Given 1 0 ∷ Constant (obj.integer (pos 1)) ∷ [])

abbrev sample_calls : Event Object
sample_calls = Operates (operation op.CallFunctionPositional (Number 1)) (Given 0 0 ∷ Given 2 0 ∷ [])

-- each operation gives a value
sample_given_all : machine sample_sum_called (Gives 1 ∷ Gives 1 ∷ Gives 1 ∷ Gives 1 ∷ []) ≡ ran (sample_loads (codes "f") ∷ sample_loads (codes "a") ∷ sample_adds ∷ sample_calls ∷ []) (Returned (It (Constant obj.none)))
sample_given_all = refl

-- the second load raises
sample_load_raises : machine sample_sum_called (Gives 1 ∷ Raised ∷ []) ≡ ran (sample_loads (codes "f") ∷ sample_loads (codes "a") ∷ []) (RaisedOut (Given 1 0))
sample_load_raises = refl

-- no answer
sample_no_answer : machine sample_sum_called [] ≡ ran (sample_loads (codes "f") ∷ []) Stopped
sample_no_answer = refl
