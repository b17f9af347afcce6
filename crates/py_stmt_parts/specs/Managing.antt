-- What leaves the items of a `with`.
use Rattle.std.specs.Prelude.{◌≢◌, ◌<◌, ℕ, List, [], ◌∷◌}
use Rattle.py_base.specs.declared.location.SourceLocation.{SourceLocation}
use Rattle.py_bytecode.specs.declared.instruction.Instruction.TheVariants as op
use Rattle.py_dataflow.specs.declared.info.BlockIdx.{BlockIdx}
use Rattle.py_emission_parts.specs.Emitting.{Done, Emission, State, ◌▸◌, emit, move}
use Rattle.py_emission_parts.specs.Running.{Action, ◌▹◌, begin, run}
use Rattle.py_emit.specs.Steps.{IsOpen}

-- what stands before the end of an item, and what calls its exit from there on
abbrev pub before_exit : SourceLocation → Emission
before_exit at = move at ▸ emit op.PopBlock 0 ▸ emit op.EnterFinally 0

abbrev pub exit_called : Emission
exit_called = emit op.WithCleanupStart 0 ▸ emit op.WithCleanupFinish 0

-- the item that ends at a block is left
abbrev pub item_exit : SourceLocation → (end : ℕ) → Action
item_exit at end = run (before_exit at) ▹ begin end ▹ run exit_called

-- the last item is left first
abbrev pub left_all : SourceLocation → List BlockIdx → Action
left_all at [] s = Done s
left_all at (b ∷ bs) s = (left_all at bs ▹ item_exit at b.0) s

abbrev pub AreApart : ℕ → List BlockIdx → Type 0
AreApart b [] = Unit {0}
AreApart b (c ∷ cs) = (b ≢ c.0) × AreApart b cs

-- the blocks are made, none has begun, and they are different ones
abbrev pub AllOpen : List BlockIdx → State → Type 0
AllOpen [] s = Unit {0}
AllOpen (b ∷ bs) s = IsOpen b.0 s × (b.0 < 0xffffffff) × AreApart b.0 bs × AllOpen bs s
