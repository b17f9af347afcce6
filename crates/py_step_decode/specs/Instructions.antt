-- Values and instructions as definitions see them.
use Rattle.std.specs.Prelude.{ℕ, [], Option, Some, None}
use Rattle.py_bytecode.specs.View.{constant}
use Rattle.py_bytecode.specs.Values as values
use Rattle.py_bytecode.specs.Values.{Constant, Given, Child, It, Cells, Load, Store, Delete, Unsaid, ByName, choose}
use Rattle.py_bytecode.specs.Machine as machine
use Rattle.py_answers.specs.Told.{Known, AChild}
use Rattle.py_answers.specs.Log.{operation_of}
use Rattle.py_step_decode.specs.declared.instructions.Value.{Value}
use Rattle.py_step_decode.specs.declared.instructions.Entry.{Entry}
use Rattle.py_step_decode.specs.declared.instructions.Instr.{Instr}

abbrev pub value_of : Value → values.Value Known
value_of (Value.Constant c) = Constant (constant c.now)
value_of (Value.Given answer index) = Given answer index
value_of Value.Child = Child AChild

abbrev pub entry_of : Entry → values.Entry Known
entry_of (Entry.It x) = It (value_of x)
entry_of Entry.Cells = Cells []

abbrev pub instr_of : Instr → machine.Instr Known ℕ
instr_of (Instr.Push e) = machine.Push (entry_of e)
instr_of (Instr.Load name) = machine.Access Unsaid Load name.now 0
instr_of (Instr.Store name silent) = machine.Access (choose silent ByName Unsaid) Store name.now 0
instr_of (Instr.Delete name) = machine.Access Unsaid Delete name.now 0
instr_of (Instr.Operate o takes gives) = machine.Operate (operation_of o) takes gives
instr_of (Instr.MakeFunction flags closure others) = machine.MakeFunction flags closure others
instr_of (Instr.Import o) = machine.Import (operation_of o)
instr_of (Instr.Append o others depth) = machine.Append (operation_of o) others depth
instr_of (Instr.Unpack o count) = machine.Unpack (operation_of o) count
instr_of Instr.Nop = machine.Nop
instr_of Instr.Pop = machine.Pop
instr_of Instr.Rotate2 = machine.Rotate2
instr_of Instr.Rotate3 = machine.Rotate3
instr_of Instr.Duplicate = machine.Duplicate
instr_of Instr.Duplicate2 = machine.Duplicate2
instr_of (Instr.JumpIf truth p) = machine.JumpIf truth p
instr_of (Instr.JumpIfOrPop truth p) = machine.JumpIfOrPop truth p
instr_of (Instr.Jump p) = machine.Jump p
instr_of Instr.SetupLoop = machine.SetupLoop
instr_of Instr.PopBlock = machine.PopBlock
instr_of (Instr.Break p) = machine.Break p
instr_of (Instr.Continue p) = machine.Continue p
instr_of Instr.ReturnValue = machine.ReturnValue
instr_of (Instr.ReturnConst x) = machine.ReturnConst (value_of x)
instr_of (Instr.SetupExcept p) = machine.SetupExcept p
instr_of (Instr.SetupFinally p) = machine.SetupFinally p
instr_of Instr.PopException = machine.PopException
instr_of Instr.EnterFinally = machine.EnterFinally
instr_of Instr.EndFinally = machine.EndFinally
instr_of Instr.Reraise = machine.Reraise
instr_of (Instr.ForIter p) = machine.ForIter p
instr_of (Instr.SetupWith p) = machine.SetupWith p
instr_of Instr.WithCleanupStart = machine.WithCleanupStart
instr_of Instr.WithCleanupFinish = machine.WithCleanupFinish

-- what stands at a place, where an instruction does
abbrev pub decoded_instr : Option Instr → Option (machine.Instr Known ℕ)
decoded_instr None = None
decoded_instr (Some i) = Some (instr_of i)
