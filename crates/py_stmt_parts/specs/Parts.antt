-- The way out of a handler.
use Rattle.std.specs.Prelude.{ℕ, Bool}
use Rattle.py_bytecode.specs.declared.instruction.Instruction.TheVariants as op
use Rattle.py_emission_parts.specs.Emitting.{Emission, ◌▸◌, emit, jump}
use Rattle.py_emission.specs.ControlEmissions.{to_last}

-- the way out of a handler
abbrev pub handler_exit : (last : Bool) → (end : ℕ) → Emission
handler_exit last end = emit op.PopException 0 ▸ to_last last ▸ jump op.Jump end
