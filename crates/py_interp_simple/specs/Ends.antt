-- How a statement ends, by what its walk answers.
use Rattle.std.specs.Prelude.{◌≡◌, ℕ, Bool, true, false, Option, Some, None, Result, Ok, Err}
use Rattle.py_bytecode.specs.Values.{Value, Given, It, World, Breaks, Continues, Returns, Ended, Normal, Leaves, Halts, throws}
use Rattle.py_answers.specs.declared.log.Halt.{Halt}
use Rattle.py_answers.specs.Told.{Known, value_of}
use Rattle.py_interp_simple.specs.declared.flow.Flow.{Flow}

-- the exception that is handled, by the number of the answer that raised it
abbrev pub slot_of : Option ℕ → Option (Value Known)
slot_of None = None
slot_of (Some n) = Some (Given n 0)

abbrev pub flow_of : Flow → World Known → Ended Known
flow_of Flow.Normal w = Normal w
flow_of Flow.Break w = Leaves Breaks w
flow_of Flow.Continue w = Leaves Continues w
flow_of (Flow.Return v) w = Leaves (Returns (It (value_of v))) w

-- what is next is done
abbrev pub goes_on : Unit {0} → World Known → Ended Known
goes_on u w = Normal w

-- a part of a run answers how it ends, in this world: how says it of what is answered; out of memory is free
abbrev pub Ends : {X : Type 0} → (how : X → World Known → Ended Known) → Result X Halt → World Known → Ended Known → Type 0
Ends how (Ok x) w ended = ended ≡ how x w
Ends how (Err (Halt.Raised n)) w ended = ended ≡ throws (Given n 0) w
Ends how (Err Halt.Stopped) w ended = ended ≡ Halts w.events
Ends how (Err Halt.OutOfMemory) w ended = Unit {0}

abbrev pub is_normal : Flow → Bool
is_normal Flow.Normal = true
is_normal Flow.Break = false
is_normal Flow.Continue = false
is_normal (Flow.Return v) = false

-- a turn that ends so is followed by the next
abbrev pub goes_again : Flow → Bool
goes_again Flow.Normal = true
goes_again Flow.Break = false
goes_again Flow.Continue = true
goes_again (Flow.Return v) = false

-- how a loop ends by a turn that is not followed by another
abbrev pub after_loop : Flow → Flow
after_loop Flow.Normal = Flow.Normal
after_loop Flow.Break = Flow.Normal
after_loop Flow.Continue = Flow.Continue
after_loop (Flow.Return v) = Flow.Return v
