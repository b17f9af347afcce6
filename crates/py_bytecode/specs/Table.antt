-- The table of instructions: operand, effect on the stack's height, and name.
use Rattle.std.specs.Prelude.{ℕ, ◌+◌, ◌*◌, ◌<◌, ◌/◌, ◌%◌, ◌^◌, ℤ, pos, negsuc, ◌-ℤ◌, Bool, true, false, List, codes, Option, Some, None, if◌then◌else◌, ◌==◌}
use Rattle.py_bytecode.specs.declared.instruction.Instruction.{Instruction}
use Rattle.py_bytecode.specs.declared.instruction.Instruction.TheVariants as op
use Rattle.py_bytecode.specs.declared.instruction.OperandKind.{OperandKind}
use Rattle.py_bytecode.specs.declared.instruction.OperandKind.TheVariants as kind

abbrev pub minus : ℕ → ℤ
minus n = pos 0 -ℤ pos n

abbrev pub bits_of : ℕ → ℕ
bits_of n = n % 2 + n / 2 % 2 + n / 4 % 2 + n / 8 % 2 + n / 16

abbrev pub raise_of : ℕ → ℤ
raise_of n = if n == 0 then negsuc 0 else (if n == 1 then negsuc 1 else pos 0)

-- how many cases an enumeration has, and how far a number may go; what a table or the code bounds is bounded there
abbrev pub range_of : OperandKind → Option ℕ
range_of kind.None = Some 1
range_of kind.Count = Some (2 ^ 30)
range_of kind.Flags = Some 32
range_of kind.Pair = Some (2 ^ 16)
range_of kind.Bit = Some 2
range_of kind.Unary = Some 4
range_of kind.Binary = Some 13
range_of kind.Compare = Some 6
range_of kind.Test = Some 5
range_of kind.RaiseKind = Some 3
range_of kind.Conversion = Some 4
range_of kind.Const = None
range_of kind.Name = None
range_of kind.Var = None
range_of kind.Cell = None
range_of kind.Label = None

-- the operand is in its kind's range, where the kind counts or enumerates
abbrev pub InKind : OperandKind → ℕ → Type 0
InKind kind.Count n = n < 2 ^ 30
InKind kind.Flags n = n < 32
InKind kind.Pair n = n < 2 ^ 16
InKind kind.Bit n = n < 2
InKind kind.Unary n = n < 4
InKind kind.Binary n = n < 13
InKind kind.Compare n = n < 6
InKind kind.Test n = n < 5
InKind kind.RaiseKind n = n < 3
InKind kind.Conversion n = n < 4
InKind kind.None n = Unit {0}
InKind kind.Const n = Unit {0}
InKind kind.Name n = Unit {0}
InKind kind.Var n = Unit {0}
InKind kind.Cell n = Unit {0}
InKind kind.Label n = Unit {0}

-- A row of the table: the operand, the effect where the next instruction follows and where it jumps, whether the next instruction is left, and the name.
pub record Row : Type 0 where
  pub kind : OperandKind
  pub falls : ℕ → ℤ
  pub jumps : ℕ → ℤ
  pub leaves : Bool
  pub name : List ℕ

abbrev row : OperandKind → (ℕ → ℤ) → (ℕ → ℤ) → Bool → List ℕ → Row
row k f j l n = record { kind = k; falls = f; jumps = j; leaves = l; name = n }

abbrev goes : Bool
goes = false

abbrev leaves : Bool
leaves = true

abbrev pub row_of : Instruction → Row
row_of op.ImportName = row kind.Name (λ n. negsuc 0) (λ n. negsuc 0) goes (codes "ImportName")
row_of op.ImportNameless = row kind.None (λ n. negsuc 0) (λ n. negsuc 0) goes (codes "ImportNameless")
row_of op.ImportStar = row kind.None (λ n. negsuc 0) (λ n. negsuc 0) goes (codes "ImportStar")
row_of op.ImportFrom = row kind.Name (λ n. pos 1) (λ n. pos 1) goes (codes "ImportFrom")
row_of op.LoadFast = row kind.Var (λ n. pos 1) (λ n. pos 1) goes (codes "LoadFast")
row_of op.LoadNameAny = row kind.Name (λ n. pos 1) (λ n. pos 1) goes (codes "LoadNameAny")
row_of op.LoadGlobal = row kind.Name (λ n. pos 1) (λ n. pos 1) goes (codes "LoadGlobal")
row_of op.LoadDeref = row kind.Cell (λ n. pos 1) (λ n. pos 1) goes (codes "LoadDeref")
row_of op.LoadClassDeref = row kind.Cell (λ n. pos 1) (λ n. pos 1) goes (codes "LoadClassDeref")
row_of op.LoadClosure = row kind.Cell (λ n. pos 1) (λ n. pos 1) goes (codes "LoadClosure")
row_of op.StoreFast = row kind.Var (λ n. negsuc 0) (λ n. negsuc 0) goes (codes "StoreFast")
row_of op.StoreLocal = row kind.Name (λ n. negsuc 0) (λ n. negsuc 0) goes (codes "StoreLocal")
row_of op.StoreGlobal = row kind.Name (λ n. negsuc 0) (λ n. negsuc 0) goes (codes "StoreGlobal")
row_of op.StoreDeref = row kind.Cell (λ n. negsuc 0) (λ n. negsuc 0) goes (codes "StoreDeref")
row_of op.DeleteFast = row kind.Var (λ n. pos 0) (λ n. pos 0) goes (codes "DeleteFast")
row_of op.DeleteLocal = row kind.Name (λ n. pos 0) (λ n. pos 0) goes (codes "DeleteLocal")
row_of op.DeleteGlobal = row kind.Name (λ n. pos 0) (λ n. pos 0) goes (codes "DeleteGlobal")
row_of op.DeleteDeref = row kind.Cell (λ n. pos 0) (λ n. pos 0) goes (codes "DeleteDeref")
row_of op.Subscript = row kind.None (λ n. negsuc 0) (λ n. negsuc 0) goes (codes "Subscript")
row_of op.StoreSubscript = row kind.None (λ n. negsuc 2) (λ n. negsuc 2) goes (codes "StoreSubscript")
row_of op.DeleteSubscript = row kind.None (λ n. negsuc 1) (λ n. negsuc 1) goes (codes "DeleteSubscript")
row_of op.LoadAttr = row kind.Name (λ n. pos 0) (λ n. pos 0) goes (codes "LoadAttr")
row_of op.StoreAttr = row kind.Name (λ n. negsuc 1) (λ n. negsuc 1) goes (codes "StoreAttr")
row_of op.DeleteAttr = row kind.Name (λ n. negsuc 0) (λ n. negsuc 0) goes (codes "DeleteAttr")
row_of op.LoadMethod = row kind.Name (λ n. pos 2) (λ n. pos 2) goes (codes "LoadMethod")
row_of op.LoadConst = row kind.Const (λ n. pos 1) (λ n. pos 1) goes (codes "LoadConst")
row_of op.ReturnConst = row kind.Const (λ n. pos 0) (λ n. pos 0) leaves (codes "ReturnConst")
row_of op.UnaryOperation = row kind.Unary (λ n. pos 0) (λ n. pos 0) goes (codes "UnaryOperation")
row_of op.BinaryOperation = row kind.Binary (λ n. negsuc 0) (λ n. negsuc 0) goes (codes "BinaryOperation")
row_of op.BinaryOperationInplace = row kind.Binary (λ n. negsuc 0) (λ n. negsuc 0) goes (codes "BinaryOperationInplace")
row_of op.CompareOperation = row kind.Compare (λ n. negsuc 0) (λ n. negsuc 0) goes (codes "CompareOperation")
row_of op.TestOperation = row kind.Test (λ n. negsuc 0) (λ n. negsuc 0) goes (codes "TestOperation")
row_of op.Pop = row kind.None (λ n. negsuc 0) (λ n. negsuc 0) goes (codes "Pop")
row_of op.Rotate2 = row kind.None (λ n. pos 0) (λ n. pos 0) goes (codes "Rotate2")
row_of op.Rotate3 = row kind.None (λ n. pos 0) (λ n. pos 0) goes (codes "Rotate3")
row_of op.Duplicate = row kind.None (λ n. pos 1) (λ n. pos 1) goes (codes "Duplicate")
row_of op.Duplicate2 = row kind.None (λ n. pos 2) (λ n. pos 2) goes (codes "Duplicate2")
row_of op.GetIter = row kind.None (λ n. pos 0) (λ n. pos 0) goes (codes "GetIter")
row_of op.CallFunctionPositional = row kind.Count (λ n. minus n) (λ n. minus n) goes (codes "CallFunctionPositional")
row_of op.CallFunctionKeyword = row kind.Count (λ n. minus (n + 1)) (λ n. minus (n + 1)) goes (codes "CallFunctionKeyword")
row_of op.CallFunctionEx = row kind.Bit (λ n. minus (n + 1)) (λ n. minus (n + 1)) goes (codes "CallFunctionEx")
row_of op.CallMethodPositional = row kind.Count (λ n. minus (n + 2)) (λ n. minus (n + 2)) goes (codes "CallMethodPositional")
row_of op.CallMethodKeyword = row kind.Count (λ n. minus (n + 3)) (λ n. minus (n + 3)) goes (codes "CallMethodKeyword")
row_of op.CallMethodEx = row kind.Bit (λ n. minus (n + 3)) (λ n. minus (n + 3)) goes (codes "CallMethodEx")
row_of op.BuildString = row kind.Count (λ n. pos 1 -ℤ pos n) (λ n. pos 1 -ℤ pos n) goes (codes "BuildString")
row_of op.BuildTuple = row kind.Count (λ n. pos 1 -ℤ pos n) (λ n. pos 1 -ℤ pos n) goes (codes "BuildTuple")
row_of op.BuildList = row kind.Count (λ n. pos 1 -ℤ pos n) (λ n. pos 1 -ℤ pos n) goes (codes "BuildList")
row_of op.BuildSet = row kind.Count (λ n. pos 1 -ℤ pos n) (λ n. pos 1 -ℤ pos n) goes (codes "BuildSet")
row_of op.BuildTupleUnpack = row kind.Count (λ n. pos 1 -ℤ pos n) (λ n. pos 1 -ℤ pos n) goes (codes "BuildTupleUnpack")
row_of op.BuildListUnpack = row kind.Count (λ n. pos 1 -ℤ pos n) (λ n. pos 1 -ℤ pos n) goes (codes "BuildListUnpack")
row_of op.BuildSetUnpack = row kind.Count (λ n. pos 1 -ℤ pos n) (λ n. pos 1 -ℤ pos n) goes (codes "BuildSetUnpack")
row_of op.BuildMapForCall = row kind.Count (λ n. pos 1 -ℤ pos n) (λ n. pos 1 -ℤ pos n) goes (codes "BuildMapForCall")
row_of op.BuildMap = row kind.Count (λ n. pos 1 -ℤ pos (2 * n)) (λ n. pos 1 -ℤ pos (2 * n)) goes (codes "BuildMap")
row_of op.DictUpdate = row kind.None (λ n. negsuc 0) (λ n. negsuc 0) goes (codes "DictUpdate")
row_of op.BuildSlice = row kind.Bit (λ n. minus (n + 1)) (λ n. minus (n + 1)) goes (codes "BuildSlice")
row_of op.ListAppend = row kind.Count (λ n. negsuc 0) (λ n. negsuc 0) goes (codes "ListAppend")
row_of op.SetAdd = row kind.Count (λ n. negsuc 0) (λ n. negsuc 0) goes (codes "SetAdd")
row_of op.MapAdd = row kind.Count (λ n. negsuc 1) (λ n. negsuc 1) goes (codes "MapAdd")
row_of op.PrintExpr = row kind.None (λ n. negsuc 0) (λ n. negsuc 0) goes (codes "PrintExpr")
row_of op.LoadBuildClass = row kind.None (λ n. pos 1) (λ n. pos 1) goes (codes "LoadBuildClass")
row_of op.UnpackSequence = row kind.Count (λ n. pos n -ℤ pos 1) (λ n. pos n -ℤ pos 1) goes (codes "UnpackSequence")
row_of op.UnpackEx = row kind.Pair (λ n. pos (n % 256 + n / 256)) (λ n. pos (n % 256 + n / 256)) goes (codes "UnpackEx")
row_of op.FormatValue = row kind.Conversion (λ n. negsuc 0) (λ n. negsuc 0) goes (codes "FormatValue")
row_of op.MakeFunction = row kind.Flags (λ n. minus (1 + bits_of n)) (λ n. minus (1 + bits_of n)) goes (codes "MakeFunction")
row_of op.YieldValue = row kind.None (λ n. pos 0) (λ n. pos 0) goes (codes "YieldValue")
row_of op.YieldFrom = row kind.None (λ n. negsuc 0) (λ n. negsuc 0) goes (codes "YieldFrom")
row_of op.SetupAnnotation = row kind.None (λ n. pos 0) (λ n. pos 0) goes (codes "SetupAnnotation")
row_of op.TypeAlias = row kind.None (λ n. negsuc 1) (λ n. negsuc 1) goes (codes "TypeAlias")
row_of op.Nop = row kind.None (λ n. pos 0) (λ n. pos 0) goes (codes "Nop")
row_of op.SetupLoop = row kind.None (λ n. pos 0) (λ n. pos 0) goes (codes "SetupLoop")
row_of op.PopBlock = row kind.None (λ n. pos 0) (λ n. pos 0) goes (codes "PopBlock")
row_of op.PopException = row kind.None (λ n. pos 0) (λ n. pos 0) goes (codes "PopException")
row_of op.EnterFinally = row kind.None (λ n. pos 0) (λ n. pos 0) goes (codes "EnterFinally")
row_of op.EndFinally = row kind.None (λ n. pos 0) (λ n. pos 0) goes (codes "EndFinally")
row_of op.WithCleanupStart = row kind.None (λ n. pos 0) (λ n. pos 0) goes (codes "WithCleanupStart")
row_of op.WithCleanupFinish = row kind.None (λ n. negsuc 0) (λ n. negsuc 0) goes (codes "WithCleanupFinish")
row_of op.Raise = row kind.RaiseKind (λ n. raise_of n) (λ n. raise_of n) leaves (codes "Raise")
row_of op.ReturnValue = row kind.None (λ n. negsuc 0) (λ n. negsuc 0) leaves (codes "ReturnValue")
row_of op.ExtendedArg = row kind.Count (λ n. pos 0) (λ n. pos 0) goes (codes "ExtendedArg")
row_of op.JumpIfTrue = row kind.Label (λ n. negsuc 0) (λ n. negsuc 0) goes (codes "JumpIfTrue")
row_of op.JumpIfFalse = row kind.Label (λ n. negsuc 0) (λ n. negsuc 0) goes (codes "JumpIfFalse")
row_of op.JumpIfTrueOrPop = row kind.Label (λ n. negsuc 0) (λ n. pos 0) goes (codes "JumpIfTrueOrPop")
row_of op.JumpIfFalseOrPop = row kind.Label (λ n. negsuc 0) (λ n. pos 0) goes (codes "JumpIfFalseOrPop")
row_of op.ForIter = row kind.Label (λ n. pos 1) (λ n. negsuc 0) goes (codes "ForIter")
row_of op.Jump = row kind.Label (λ n. pos 0) (λ n. pos 0) leaves (codes "Jump")
row_of op.Break = row kind.Label (λ n. pos 0) (λ n. pos 0) leaves (codes "Break")
row_of op.Continue = row kind.Label (λ n. pos 0) (λ n. pos 0) leaves (codes "Continue")
row_of op.SetupExcept = row kind.Label (λ n. pos 0) (λ n. pos 1) goes (codes "SetupExcept")
row_of op.SetupFinally = row kind.Label (λ n. pos 0) (λ n. pos 0) goes (codes "SetupFinally")
row_of op.SetupWith = row kind.Label (λ n. pos 1) (λ n. pos 0) goes (codes "SetupWith")
row_of op.TypeVar = row kind.None (λ n. pos 0) (λ n. pos 0) goes (codes "TypeVar")
row_of op.TypeVarWithBound = row kind.None (λ n. negsuc 0) (λ n. negsuc 0) goes (codes "TypeVarWithBound")

abbrev pub is_label : OperandKind → Bool
is_label kind.None = false
is_label kind.Const = false
is_label kind.Name = false
is_label kind.Var = false
is_label kind.Cell = false
is_label kind.Label = true
is_label kind.Count = false
is_label kind.Flags = false
is_label kind.Pair = false
is_label kind.Bit = false
is_label kind.Unary = false
is_label kind.Binary = false
is_label kind.Compare = false
is_label kind.Test = false
is_label kind.RaiseKind = false
is_label kind.Conversion = false

abbrev pub effect_of : Row → ℕ → Bool → ℤ
effect_of r n true = r.jumps n
effect_of r n false = r.falls n
