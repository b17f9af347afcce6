-- The numbers of instructions: from 0, in the order of the table of instructions, the jumps last.
use Rattle.std.specs.Prelude.{ℕ, List, [], ◌∷◌}
use Rattle.py_bytecode.specs.declared.instruction.Instruction.{Instruction}
use Rattle.py_bytecode.specs.declared.instruction.Instruction.TheVariants as op

abbrev pub opcode : Instruction → ℕ
opcode op.ImportName = 0
opcode op.ImportNameless = 1
opcode op.ImportStar = 2
opcode op.ImportFrom = 3
opcode op.LoadFast = 4
opcode op.LoadNameAny = 5
opcode op.LoadGlobal = 6
opcode op.LoadDeref = 7
opcode op.LoadClassDeref = 8
opcode op.LoadClosure = 9
opcode op.StoreFast = 10
opcode op.StoreLocal = 11
opcode op.StoreGlobal = 12
opcode op.StoreDeref = 13
opcode op.DeleteFast = 14
opcode op.DeleteLocal = 15
opcode op.DeleteGlobal = 16
opcode op.DeleteDeref = 17
opcode op.Subscript = 18
opcode op.StoreSubscript = 19
opcode op.DeleteSubscript = 20
opcode op.LoadAttr = 21
opcode op.StoreAttr = 22
opcode op.DeleteAttr = 23
opcode op.LoadMethod = 24
opcode op.LoadConst = 25
opcode op.ReturnConst = 26
opcode op.UnaryOperation = 27
opcode op.BinaryOperation = 28
opcode op.BinaryOperationInplace = 29
opcode op.CompareOperation = 30
opcode op.TestOperation = 31
opcode op.Pop = 32
opcode op.Rotate2 = 33
opcode op.Rotate3 = 34
opcode op.Duplicate = 35
opcode op.Duplicate2 = 36
opcode op.GetIter = 37
opcode op.CallFunctionPositional = 38
opcode op.CallFunctionKeyword = 39
opcode op.CallFunctionEx = 40
opcode op.CallMethodPositional = 41
opcode op.CallMethodKeyword = 42
opcode op.CallMethodEx = 43
opcode op.BuildString = 44
opcode op.BuildTuple = 45
opcode op.BuildList = 46
opcode op.BuildSet = 47
opcode op.BuildTupleUnpack = 48
opcode op.BuildListUnpack = 49
opcode op.BuildSetUnpack = 50
opcode op.BuildMapForCall = 51
opcode op.BuildMap = 52
opcode op.DictUpdate = 53
opcode op.BuildSlice = 54
opcode op.ListAppend = 55
opcode op.SetAdd = 56
opcode op.MapAdd = 57
opcode op.PrintExpr = 58
opcode op.LoadBuildClass = 59
opcode op.UnpackSequence = 60
opcode op.UnpackEx = 61
opcode op.FormatValue = 62
opcode op.MakeFunction = 63
opcode op.YieldValue = 64
opcode op.YieldFrom = 65
opcode op.SetupAnnotation = 66
opcode op.TypeAlias = 67
opcode op.Nop = 68
opcode op.SetupLoop = 69
opcode op.PopBlock = 70
opcode op.PopException = 71
opcode op.EnterFinally = 72
opcode op.EndFinally = 73
opcode op.WithCleanupStart = 74
opcode op.WithCleanupFinish = 75
opcode op.Raise = 76
opcode op.ReturnValue = 77
opcode op.ExtendedArg = 78
opcode op.JumpIfTrue = 79
opcode op.JumpIfFalse = 80
opcode op.JumpIfTrueOrPop = 81
opcode op.JumpIfFalseOrPop = 82
opcode op.ForIter = 83
opcode op.Jump = 84
opcode op.Break = 85
opcode op.Continue = 86
opcode op.SetupExcept = 87
opcode op.SetupFinally = 88
opcode op.SetupWith = 89
opcode op.TypeVar = 90
opcode op.TypeVarWithBound = 91

-- the instruction of each number; 92 and above have none
abbrev pub instructions : List Instruction
instructions =
    op.ImportName ∷ op.ImportNameless ∷ op.ImportStar ∷ op.ImportFrom ∷ op.LoadFast ∷ op.LoadNameAny
    ∷ op.LoadGlobal ∷ op.LoadDeref ∷ op.LoadClassDeref ∷ op.LoadClosure ∷ op.StoreFast ∷ op.StoreLocal
    ∷ op.StoreGlobal ∷ op.StoreDeref ∷ op.DeleteFast ∷ op.DeleteLocal ∷ op.DeleteGlobal ∷ op.DeleteDeref
    ∷ op.Subscript ∷ op.StoreSubscript ∷ op.DeleteSubscript ∷ op.LoadAttr ∷ op.StoreAttr ∷ op.DeleteAttr
    ∷ op.LoadMethod ∷ op.LoadConst ∷ op.ReturnConst ∷ op.UnaryOperation ∷ op.BinaryOperation ∷ op.BinaryOperationInplace
    ∷ op.CompareOperation ∷ op.TestOperation ∷ op.Pop ∷ op.Rotate2 ∷ op.Rotate3 ∷ op.Duplicate
    ∷ op.Duplicate2 ∷ op.GetIter ∷ op.CallFunctionPositional ∷ op.CallFunctionKeyword ∷ op.CallFunctionEx ∷ op.CallMethodPositional
    ∷ op.CallMethodKeyword ∷ op.CallMethodEx ∷ op.BuildString ∷ op.BuildTuple ∷ op.BuildList ∷ op.BuildSet
    ∷ op.BuildTupleUnpack ∷ op.BuildListUnpack ∷ op.BuildSetUnpack ∷ op.BuildMapForCall ∷ op.BuildMap ∷ op.DictUpdate
    ∷ op.BuildSlice ∷ op.ListAppend ∷ op.SetAdd ∷ op.MapAdd ∷ op.PrintExpr ∷ op.LoadBuildClass
    ∷ op.UnpackSequence ∷ op.UnpackEx ∷ op.FormatValue ∷ op.MakeFunction ∷ op.YieldValue ∷ op.YieldFrom
    ∷ op.SetupAnnotation ∷ op.TypeAlias ∷ op.Nop ∷ op.SetupLoop ∷ op.PopBlock ∷ op.PopException
    ∷ op.EnterFinally ∷ op.EndFinally ∷ op.WithCleanupStart ∷ op.WithCleanupFinish ∷ op.Raise ∷ op.ReturnValue
    ∷ op.ExtendedArg ∷ op.JumpIfTrue ∷ op.JumpIfFalse ∷ op.JumpIfTrueOrPop ∷ op.JumpIfFalseOrPop ∷ op.ForIter
    ∷ op.Jump ∷ op.Break ∷ op.Continue ∷ op.SetupExcept ∷ op.SetupFinally ∷ op.SetupWith
    ∷ op.TypeVar ∷ op.TypeVarWithBound ∷ []
