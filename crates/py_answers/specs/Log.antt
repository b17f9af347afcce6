-- What a run has listed and has left, and what a part of it gets.
use Rattle.std.specs.Prelude.{◌≡◌, ℕ, suc, List, [], ◌∷◌, ◌++◌, Bool, true, false, Option, Some, None, Result, Ok, Err}
use Rattle.py_bytecode.specs.Values as values
use Rattle.py_bytecode.specs.Values.{Bare, Number, Named, Value, Given, Event, World, Got, Fine, Raises, Stops, given_values, with_event}
use Rattle.py_answers.specs.declared.answers.Answer.{Answer}
use Rattle.py_answers.specs.declared.log.Halt.{Halt}
use Rattle.py_answers.specs.declared.log.Log.{Log}
use Rattle.py_answers.specs.declared.log.Operand.{Operand}
use Rattle.py_answers.specs.declared.log.Operation.{Operation}
use Rattle.py_answers.specs.Scripts.{answer_of, answers_of}
use Rattle.py_answers.specs.Told.{Known, events_of}

abbrev pub operand_of : Operand → values.Detail
operand_of Operand.Bare = Bare
operand_of (Operand.Number n) = Number n
operand_of (Operand.Named name) = Named name.now

abbrev pub operation_of : Operation → values.Operation
operation_of o = record { instruction = o.op; detail = operand_of o.operand }

-- what a log has listed, and has left
abbrev pub world_of : Log → World Known
world_of l = record { events = events_of l.events.items; answers = answers_of l.answers.now; taken = l.taken }

-- a part of a run answers what it gets, seen by view, in this world; out of memory is free
abbrev pub Gets : {X A : Type 0} → (X → A) → Result X Halt → World Known → Got Known A → Type 0
Gets view (Ok x) w got = got ≡ Fine (view x) w
Gets view (Err (Halt.Raised n)) w got = got ≡ Raises (Given n 0) w
Gets view (Err Halt.Stopped) w got = got ≡ Stops w.events
Gets view (Err Halt.OutOfMemory) w got = Unit {0}

-- the next answer is taken, with its number; none where none is left
abbrev pub IsTaken : Option (Answer × ℕ) → (new old : World Known) → Type 0
IsTaken (Some x) new old =
    (rest : List values.Answer) × (old.answers ≡ answer_of x.0 ∷ rest) × (x.1 ≡ old.taken) × (new ≡ record { events = old.events; answers = rest; taken = suc old.taken })
IsTaken None new old = (old.answers ≡ []) × (new ≡ old)

-- an event is listed, and the next answer is taken
abbrev pub GetsAnswer : Result (Answer × ℕ) Halt → (new : World Known) → Event Known → (old : World Known) → Type 0
GetsAnswer (Ok x) new e old =
    (rest : List values.Answer) × (old.answers ≡ answer_of x.0 ∷ rest) × (x.1 ≡ old.taken) × (new ≡ record { events = old.events ++ e ∷ []; answers = rest; taken = suc old.taken })
GetsAnswer (Err Halt.Stopped) new e old = (old.answers ≡ []) × (new ≡ with_event e old)
GetsAnswer (Err (Halt.Raised n)) new e old = ⊥
GetsAnswer (Err Halt.OutOfMemory) new e old = Unit {0}

-- the values of an answer that gives so many
abbrev pub counted_by : Option ℕ → ℕ → List (Value Known)
counted_by None n = []
counted_by (Some count) n = given_values count n 0

abbrev pub next_given : Option ℕ → Option (Value Known)
next_given None = None
next_given (Some n) = Some (Given n 0)
