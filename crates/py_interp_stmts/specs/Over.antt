-- How a part of a body has ended, after which something else is done.
use Rattle.std.specs.Prelude.{ℕ, Bool, true, false, Option, Some, Result, Ok, Err}
use Rattle.py_bytecode.specs.Values.{World, Ended, Leaves, Halts, on_ended, then_do}
use Rattle.py_answers.specs.declared.log.Halt.{Halt}
use Rattle.py_answers.specs.Told.{Known}
use Rattle.py_interp_simple.specs.declared.flow.Flow.{Flow}

-- the run is over: nothing more is done
abbrev pub is_over : Result Flow Halt → Bool
is_over (Ok f) = false
is_over (Err (Halt.Raised n)) = false
is_over (Err Halt.Stopped) = true
is_over (Err Halt.OutOfMemory) = true

-- the exception that is handled while this ending is in hand
abbrev pub in_hand_of : Result Flow Halt → (slot : Option ℕ) → Option ℕ
in_hand_of (Ok f) slot = slot
in_hand_of (Err (Halt.Raised n)) slot = Some n
in_hand_of (Err Halt.Stopped) slot = slot
in_hand_of (Err Halt.OutOfMemory) slot = slot

-- something is done on every way out, which then goes on unless this leaves in another way
abbrev pub do_last : (World Known → Ended Known) → Ended Known → Ended Known
do_last last ended = on_ended ended last (λ r w. then_do (last w) (λ w1. Leaves r w1)) Halts
