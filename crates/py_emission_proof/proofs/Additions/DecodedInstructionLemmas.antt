-- What an instruction that decodes is: its operand is in its kind's range, it is no prefix, and where it jumps it has a target.
use Rattle.std.proofs.Common.{◌≡◌, ◌≢◌, ℕ, zero, suc, ◌<◌, List, [], ◌∷◌, length, Bool, true, false, Option, Some, None, refl, subst, arith}
use Rattle.std.specs.Prelude.{nat_lt, slice_get, if◌then◌else◌}
use Rattle.std.proofs.lemmas.Bool.Decides.{nat_tests}
use Rattle.py_bytecode.specs.declared.instruction.Instruction.{Instruction}
use Rattle.py_bytecode.specs.declared.instruction.Instruction.TheVariants as op
use Rattle.py_bytecode.specs.declared.instruction.OperandKind.{OperandKind}
use Rattle.py_bytecode.specs.declared.instruction.OperandKind.TheVariants as kind
use Rattle.py_bytecode.specs.Table.{range_of, row_of}
use Rattle.py_bytecode.specs.Objects.{Object}
use Rattle.py_bytecode.specs.Machine.{Instr}
use Rattle.py_bytecode.specs.Decode.{Tables, for_some, below, within, instr_of}
use Rattle.py_bytecode.specs.Units.{is_prefix}
use Rattle.py_dataflow.specs.Flat.{is_jump}
use Rattle.py_ir.specs.Checks as checks
use Rattle.py_ir.specs.Checks.{lens_of, in_kind}

-- where anything is decoded, the test says yes
abbrev So : Bool → Option (Instr Object ℕ) → Type 0
So b None = Unit {0}
So b (Some i) = b ≡ true

anyway : {b : Bool} (o : Option (Instr Object ℕ)) → b ≡ true → So b o
anyway None h = tt
anyway (Some i) h = h

within_list : {A : Type 0} (xs : List A) (n : ℕ) (x : A) → slice_get xs n ≡ Some x → n < length xs
within_list [] n x e = absurd cc
within_list (y ∷ ys) zero x e = omega arith
within_list (y ∷ ys) (suc n) x e = let r = within_list ys n x e in omega arith

less : (m n : ℕ) → m < n → nat_lt m n ≡ true
less m n h = grind (arith, nat_tests)

some_so : {A : Type 0} {b : Bool} (o : Option A) (k : A → Instr Object ℕ) → ((x : A) → o ≡ Some x → b ≡ true) → So b (for_some o k)
some_so None k h = tt
some_so (Some x) k h = h x refl

-- an entry of a table
decoded_instruction_listed : {A : Type 0} (xs : List A) (n : ℕ) (k : A → Instr Object ℕ) → So (nat_lt n (length xs)) (for_some (slice_get xs n) k)
decoded_instruction_listed xs n k = some_so (slice_get xs n) k (λ x e. less n (length xs) (within_list xs n x e))

decoded_instruction_if_so : (c : Bool) (i : Instr Object ℕ) → So c (if c then Some i else None)
decoded_instruction_if_so true i = refl
decoded_instruction_if_so false i = tt

below_so : (m : Option ℕ) (n : ℕ) (i : Instr Object ℕ) → So (checks.below m n) (below m n i)
below_so None n i = refl
below_so (Some m) n i = decoded_instruction_if_so (nat_lt n m) i

within_so : (k : OperandKind) (n : ℕ) (i : Instr Object ℕ) → So (checks.below (range_of k) n) (within k n i)
within_so k n i = below_so (range_of k) n i

fits_so : (t : Tables) (to : Option ℕ) (o : Instruction) (n : ℕ) → So (in_kind (lens_of t) (row_of o).kind n) (instr_of t to o n)
fits_so t to op.ImportName n = decoded_instruction_listed t.names n _
fits_so t to op.ImportNameless n = within_so kind.None n _
fits_so t to op.ImportStar n = within_so kind.None n _
fits_so t to op.ImportFrom n = decoded_instruction_listed t.names n _
fits_so t to op.LoadFast n = decoded_instruction_listed t.varnames n _
fits_so t to op.LoadNameAny n = decoded_instruction_listed t.names n _
fits_so t to op.LoadGlobal n = decoded_instruction_listed t.names n _
fits_so t to op.LoadDeref n = decoded_instruction_listed t.cells n _
fits_so t to op.LoadClassDeref n = decoded_instruction_listed t.cells n _
fits_so t to op.LoadClosure n = decoded_instruction_listed t.cells n _
fits_so t to op.StoreFast n = decoded_instruction_listed t.varnames n _
fits_so t to op.StoreLocal n = decoded_instruction_listed t.names n _
fits_so t to op.StoreGlobal n = decoded_instruction_listed t.names n _
fits_so t to op.StoreDeref n = decoded_instruction_listed t.cells n _
fits_so t to op.DeleteFast n = decoded_instruction_listed t.varnames n _
fits_so t to op.DeleteLocal n = decoded_instruction_listed t.names n _
fits_so t to op.DeleteGlobal n = decoded_instruction_listed t.names n _
fits_so t to op.DeleteDeref n = decoded_instruction_listed t.cells n _
fits_so t to op.Subscript n = within_so kind.None n _
fits_so t to op.StoreSubscript n = within_so kind.None n _
fits_so t to op.DeleteSubscript n = within_so kind.None n _
fits_so t to op.LoadAttr n = decoded_instruction_listed t.names n _
fits_so t to op.StoreAttr n = decoded_instruction_listed t.names n _
fits_so t to op.DeleteAttr n = decoded_instruction_listed t.names n _
fits_so t to op.LoadMethod n = decoded_instruction_listed t.names n _
fits_so t to op.LoadConst n = decoded_instruction_listed t.constants n _
fits_so t to op.ReturnConst n = decoded_instruction_listed t.constants n _
fits_so t to op.UnaryOperation n = within_so kind.Unary n _
fits_so t to op.BinaryOperation n = within_so kind.Binary n _
fits_so t to op.BinaryOperationInplace n = within_so kind.Binary n _
fits_so t to op.CompareOperation n = within_so kind.Compare n _
fits_so t to op.TestOperation n = within_so kind.Test n _
fits_so t to op.Pop n = within_so kind.None n _
fits_so t to op.Rotate2 n = within_so kind.None n _
fits_so t to op.Rotate3 n = within_so kind.None n _
fits_so t to op.Duplicate n = within_so kind.None n _
fits_so t to op.Duplicate2 n = within_so kind.None n _
fits_so t to op.GetIter n = within_so kind.None n _
fits_so t to op.CallFunctionPositional n = within_so kind.Count n _
fits_so t to op.CallFunctionKeyword n = within_so kind.Count n _
fits_so t to op.CallFunctionEx n = within_so kind.Bit n _
fits_so t to op.CallMethodPositional n = within_so kind.Count n _
fits_so t to op.CallMethodKeyword n = within_so kind.Count n _
fits_so t to op.CallMethodEx n = within_so kind.Bit n _
fits_so t to op.BuildString n = within_so kind.Count n _
fits_so t to op.BuildTuple n = within_so kind.Count n _
fits_so t to op.BuildList n = within_so kind.Count n _
fits_so t to op.BuildSet n = within_so kind.Count n _
fits_so t to op.BuildTupleUnpack n = within_so kind.Count n _
fits_so t to op.BuildListUnpack n = within_so kind.Count n _
fits_so t to op.BuildSetUnpack n = within_so kind.Count n _
fits_so t to op.BuildMapForCall n = within_so kind.Count n _
fits_so t to op.BuildMap n = within_so kind.Count n _
fits_so t to op.DictUpdate n = within_so kind.None n _
fits_so t to op.BuildSlice n = within_so kind.Bit n _
fits_so t to op.ListAppend n = within_so kind.Count n _
fits_so t to op.SetAdd n = within_so kind.Count n _
fits_so t to op.MapAdd n = within_so kind.Count n _
fits_so t to op.PrintExpr n = within_so kind.None n _
fits_so t to op.LoadBuildClass n = within_so kind.None n _
fits_so t to op.UnpackSequence n = within_so kind.Count n _
fits_so t to op.UnpackEx n = within_so kind.Pair n _
fits_so t to op.FormatValue n = within_so kind.Conversion n _
fits_so t to op.MakeFunction n = within_so kind.Flags n _
fits_so t to op.YieldValue n = within_so kind.None n _
fits_so t to op.YieldFrom n = within_so kind.None n _
fits_so t to op.SetupAnnotation n = within_so kind.None n _
fits_so t to op.TypeAlias n = within_so kind.None n _
fits_so t to op.Nop n = within_so kind.None n _
fits_so t to op.SetupLoop n = within_so kind.None n _
fits_so t to op.PopBlock n = within_so kind.None n _
fits_so t to op.PopException n = within_so kind.None n _
fits_so t to op.EnterFinally n = within_so kind.None n _
fits_so t to op.EndFinally n = within_so kind.None n _
fits_so t to op.WithCleanupStart n = within_so kind.None n _
fits_so t to op.WithCleanupFinish n = within_so kind.None n _
fits_so t to op.Raise n = within_so kind.RaiseKind n _
fits_so t to op.ReturnValue n = within_so kind.None n _
fits_so t to op.ExtendedArg n = tt
fits_so t to op.JumpIfTrue n = anyway (instr_of t to op.JumpIfTrue n) refl
fits_so t to op.JumpIfFalse n = anyway (instr_of t to op.JumpIfFalse n) refl
fits_so t to op.JumpIfTrueOrPop n = anyway (instr_of t to op.JumpIfTrueOrPop n) refl
fits_so t to op.JumpIfFalseOrPop n = anyway (instr_of t to op.JumpIfFalseOrPop n) refl
fits_so t to op.ForIter n = anyway (instr_of t to op.ForIter n) refl
fits_so t to op.Jump n = anyway (instr_of t to op.Jump n) refl
fits_so t to op.Break n = anyway (instr_of t to op.Break n) refl
fits_so t to op.Continue n = anyway (instr_of t to op.Continue n) refl
fits_so t to op.SetupExcept n = anyway (instr_of t to op.SetupExcept n) refl
fits_so t to op.SetupFinally n = anyway (instr_of t to op.SetupFinally n) refl
fits_so t to op.SetupWith n = anyway (instr_of t to op.SetupWith n) refl
fits_so t to op.TypeVar n = within_so kind.None n _
fits_so t to op.TypeVarWithBound n = within_so kind.None n _

pub operand_within : (t : Tables) (to : Option ℕ) (o : Instruction) (n : ℕ) (i : Instr Object ℕ) → instr_of t to o n ≡ Some i → in_kind (lens_of t) (row_of o).kind n ≡ true
operand_within t to o n i e = subst (So (in_kind (lens_of t) (row_of o).kind n)) e (fits_so t to o n)

pub no_prefix : (t : Tables) (to : Option ℕ) (o : Instruction) (n : ℕ) (i : Instr Object ℕ) → instr_of t to o n ≡ Some i → is_prefix o ≡ false
no_prefix t to op.ExtendedArg n i e = absurd cc
no_prefix t to o n i e = refl

pub jump_aims : (t : Tables) (to : Option ℕ) (o : Instruction) (n : ℕ) (i : Instr Object ℕ) → instr_of t to o n ≡ Some i → is_jump o ≡ true → to ≢ None
jump_aims t (Some b) o n i e j = λ z. absurd cc
jump_aims t None op.JumpIfTrue n i e j = absurd cc
jump_aims t None op.JumpIfFalse n i e j = absurd cc
jump_aims t None op.JumpIfTrueOrPop n i e j = absurd cc
jump_aims t None op.JumpIfFalseOrPop n i e j = absurd cc
jump_aims t None op.ForIter n i e j = absurd cc
jump_aims t None op.Jump n i e j = absurd cc
jump_aims t None op.Break n i e j = absurd cc
jump_aims t None op.Continue n i e j = absurd cc
jump_aims t None op.SetupExcept n i e j = absurd cc
jump_aims t None op.SetupFinally n i e j = absurd cc
jump_aims t None op.SetupWith n i e j = absurd cc
jump_aims t None o n i e j = absurd cc
