-- What a machine holds beside its stack, as definitions see it.
use Rattle.std.specs.Prelude.{ℕ, Option, Some, None}
use Rattle.py_bytecode.specs.Values as values
use Rattle.py_bytecode.specs.Values.{Given}
use Rattle.py_bytecode.specs.Machine as machine
use Rattle.py_answers.specs.declared.log.Halt.{Halt}
use Rattle.py_answers.specs.Told.{Known}
use Rattle.py_step_decode.specs.declared.instructions.Instr.{Instr}
use Rattle.py_step_decode.specs.Instructions.{entry_of, instr_of}
use Rattle.py_step_machine.specs.declared.held.Reason.{Reason}
use Rattle.py_step_machine.specs.declared.held.Block.{Block}
use Rattle.py_step_machine.specs.declared.held.Stop.{Stop}
use Rattle.py_step_machine.specs.declared.held.End.{End}

-- the exception that an answer raised
abbrev pub raised_value : ℕ → values.Value Known
raised_value n = Given n 0

abbrev pub slot_of : Option ℕ → Option (values.Value Known)
slot_of None = None
slot_of (Some n) = Some (raised_value n)

abbrev pub reason_of : Reason → machine.Reason Known ℕ
reason_of (Reason.Break p) = machine.BreakTo p
reason_of (Reason.Continue p) = machine.ContinueTo p
reason_of (Reason.Return e) = machine.ReturnOf (entry_of e)
reason_of (Reason.Raise n) = machine.RaiseOf (raised_value n)

abbrev pub kept_of : Option Reason → Option (machine.Reason Known ℕ)
kept_of None = None
kept_of (Some r) = Some (reason_of r)

abbrev pub block_of : Block → machine.Block Known ℕ
block_of (Block.Loop h) = machine.Loop h
block_of (Block.Except h q) = machine.Except h q
block_of (Block.Finally h q) = machine.Finally h q
block_of (Block.ExceptHandler h old) = machine.ExceptHandler h (slot_of old)
block_of (Block.FinallyHandler h r old) = machine.FinallyHandler h (kept_of r) (slot_of old)

-- what a question that got no answer stops: an exception leaves blocks
abbrev pub stop_of : Halt → Stop
stop_of (Halt.Raised n) = Stop.Leaves (Reason.Raise n)
stop_of Halt.Stopped = Stop.Stopped
stop_of Halt.OutOfMemory = Stop.OutOfMemory

-- how a run ends; out of memory is no end of a run
abbrev pub ending_of : End → values.Outcome Known
ending_of (End.Returned e) = values.Returned (entry_of e)
ending_of (End.Raised n) = values.RaisedOut (raised_value n)
ending_of End.Stopped = values.Stopped
ending_of End.Wrong = values.Wrong
ending_of End.Leaked = values.Leaked
ending_of End.OutOfMemory = values.Going

-- an instruction and the place after it
abbrev pub fetched_as : Option (Instr × ℕ) → machine.Fetched Known ℕ
fetched_as None = machine.Nothing
fetched_as (Some x) = machine.Found (instr_of x.0) x.1
