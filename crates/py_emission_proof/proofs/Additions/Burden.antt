-- What a code weighs: one for each instruction and each label, and by how much an instruction raises the stack at most. Loads of cells are
-- counted apart.
use Rattle.std.proofs.Common.{◌≡◌, ℕ, suc, ◌+◌, ◌*◌, ◌≤◌, List, [], ◌∷◌, ◌++◌, refl, arith}
use Rattle.py_bytecode.specs.Objects.{Object}
use Rattle.py_bytecode.specs.Values.{It, Cells}
use Rattle.py_bytecode.specs.Machine.{Instr, Push, Access, Operate, MakeFunction, Import, Append, Unpack, Nop, Pop, Rotate2, Rotate3, Duplicate, Duplicate2, JumpIf, JumpIfOrPop, Jump, SetupLoop, PopBlock, Break, Continue, ReturnValue, ReturnConst, SetupExcept, SetupFinally, PopException, EnterFinally, EndFinally, Reraise, ForIter, SetupWith, WithCleanupStart, WithCleanupFinish}
use Rattle.py_control.specs.Code.{Item, Do, Label, size}
use Rattle.py_control_proof.specs.Blocks.{placed_labels}
use Rattle.py_control.specs.Places.{instr_over, items_over}
use Rattle.py_control_proof.specs.Walks.{rise, rises}

-- a load of a cell weighs nothing
abbrev pub weight : {K : Type 0} → Instr K ℕ → ℕ
weight (Push (It v)) = 2
weight (Push (Cells cs)) = 0
weight other = suc (rise other)

abbrev pub burden : {K : Type 0} → List (Item K) → ℕ
burden [] = 0
burden (Do i ∷ is) = weight i + burden is
burden (Label l ∷ is) = suc (burden is)

-- it is a load of a cell
abbrev pub cell_in : {K : Type 0} → Instr K ℕ → ℕ
cell_in (Push (It v)) = 0
cell_in (Push (Cells cs)) = 1
cell_in other = 0

-- how many loads of cells there are
abbrev pub cells_in : {K : Type 0} → List (Item K) → ℕ
cells_in [] = 0
cells_in (Do i ∷ is) = cell_in i + cells_in is
cells_in (Label l ∷ is) = cells_in is

module _ {K : Type 0} where
  pub burden-append : (a b : List (Item K)) → burden (a ++ b) ≡ burden a + burden b
  burden-append [] b = omega arith
  burden-append (Do i ∷ a) b = let e = burden-append a b in omega (arith, e)
  burden-append (Label l ∷ a) b = let e = burden-append a b in omega (arith, e)

  pub cells-append : (a b : List (Item K)) → cells_in (a ++ b) ≡ cells_in a + cells_in b
  cells-append [] b = omega arith
  cells-append (Do i ∷ a) b = let e = cells-append a b in omega (arith, e)
  cells-append (Label l ∷ a) b = cells-append a b

  weighs : (i : Instr K ℕ) → suc (rise i) ≡ weight i + 2 * cell_in i
  weighs (Push (It v)) = omega arith
  weighs (Push (Cells cs)) = omega arith
  weighs (Access k u n p) = omega arith
  weighs (Operate o n k) = omega arith
  weighs (MakeFunction fl b n) = omega arith
  weighs (Import o) = omega arith
  weighs (Append o n d) = omega arith
  weighs (Unpack o n) = omega arith
  weighs Nop = omega arith
  weighs Pop = omega arith
  weighs Rotate2 = omega arith
  weighs Rotate3 = omega arith
  weighs Duplicate = omega arith
  weighs Duplicate2 = omega arith
  weighs (JumpIf b p) = omega arith
  weighs (JumpIfOrPop b p) = omega arith
  weighs (Jump p) = omega arith
  weighs SetupLoop = omega arith
  weighs PopBlock = omega arith
  weighs (Break p) = omega arith
  weighs (Continue p) = omega arith
  weighs ReturnValue = omega arith
  weighs (ReturnConst v) = omega arith
  weighs (SetupExcept p) = omega arith
  weighs (SetupFinally p) = omega arith
  weighs PopException = omega arith
  weighs EnterFinally = omega arith
  weighs EndFinally = omega arith
  weighs Reraise = omega arith
  weighs (ForIter p) = omega arith
  weighs (SetupWith p) = omega arith
  weighs WithCleanupStart = omega arith
  weighs WithCleanupFinish = omega arith

  -- the instructions and the rises together
  pub burden_is : (a : List (Item K)) → size a + rises a ≤ burden a + 2 * cells_in a
  burden_is [] = omega arith
  burden_is (Do i ∷ a) = let e = burden_is a in let w = weighs i in omega (arith, e, w)
  burden_is (Label l ∷ a) = let e = burden_is a in omega (arith, e)

module _ {K L : Type 0} (c : K → L) where
  cell_over : (i : Instr K ℕ) → cell_in (instr_over c (λ p. p) i) ≡ cell_in i
  cell_over (Push (It v)) = refl
  cell_over (Push (Cells cs)) = refl
  cell_over (Access k u n p) = refl
  cell_over (Operate o n k) = refl
  cell_over (MakeFunction fl b n) = refl
  cell_over (Import o) = refl
  cell_over (Append o n d) = refl
  cell_over (Unpack o n) = refl
  cell_over Nop = refl
  cell_over Pop = refl
  cell_over Rotate2 = refl
  cell_over Rotate3 = refl
  cell_over Duplicate = refl
  cell_over Duplicate2 = refl
  cell_over (JumpIf b p) = refl
  cell_over (JumpIfOrPop b p) = refl
  cell_over (Jump p) = refl
  cell_over SetupLoop = refl
  cell_over PopBlock = refl
  cell_over (Break p) = refl
  cell_over (Continue p) = refl
  cell_over ReturnValue = refl
  cell_over (ReturnConst v) = refl
  cell_over (SetupExcept p) = refl
  cell_over (SetupFinally p) = refl
  cell_over PopException = refl
  cell_over EnterFinally = refl
  cell_over EndFinally = refl
  cell_over Reraise = refl
  cell_over (ForIter p) = refl
  cell_over (SetupWith p) = refl
  cell_over WithCleanupStart = refl
  cell_over WithCleanupFinish = refl

  -- other children make no difference
  pub cells_over : (is : List (Item K)) → cells_in (items_over c is) ≡ cells_in is
  cells_over [] = refl
  cells_over (Do i ∷ is) = let e = cell_over i in let f = cells_over is in omega (arith, e, f)
  cells_over (Label l ∷ is) = cells_over is

-- and the labels
pub labels_few : (a : List (Item Object)) → placed_labels a ≤ burden a
labels_few [] = omega arith
labels_few (Do i ∷ a) = let e = labels_few a in omega (arith, e)
labels_few (Label l ∷ a) = let e = labels_few a in omega (arith, e)
