-- States of a machine, and what is done from one: a value and the next state, or why nothing comes next.
use Rattle.std.specs.Prelude.{◌≡◌, ℕ, List, map, Option, Result, Ok, Err}
use Rattle.py_bytecode.specs.Values.{Value, Entry, Event, World, Outcome, Returned, RaisedOut, Stopped, Wrong, Leaked, Ran, ran}
use Rattle.py_bytecode.specs.Machine as machine
use Rattle.py_bytecode.specs.Machine.{Config, At, Over}
use Rattle.py_answers.specs.Told.{Known}
use Rattle.py_answers.specs.Log.{world_of}
use Rattle.py_step_machine.specs.declared.held.Block.{Block as Block1}
use Rattle.py_step_decode.specs.declared.instructions.Entry.{Entry as Entry1}
use Rattle.py_step_machine.specs.declared.held.Stop.{Stop}
use Rattle.py_step_machine.specs.declared.held.End.{End}
use Rattle.py_step_machine.specs.declared.machine.Machine.{Machine}
use Rattle.py_step_decode.specs.Instructions.{entry_of}
use Rattle.py_step_machine.specs.Held.{block_of, reason_of, slot_of, raised_value}

pub record State : Type 0 where
  pub stack : List (Entry Known)
  pub blocks : List (machine.Block Known ℕ)
  pub slot : Option (Value Known)
  pub world : World Known

abbrev pub state : List (Entry Known) → List (machine.Block Known ℕ) → Option (Value Known) → World Known → State
state s bs slot w = record { stack = s; blocks = bs; slot = slot; world = w }

abbrev pub machine_stack : List Entry1 → List (Entry Known)
machine_stack es = map entry_of es

abbrev pub machine_blocks : List Block1 → List (machine.Block Known ℕ)
machine_blocks bs = map block_of bs

abbrev pub state_of : Machine → State
state_of m = state (machine_stack m.stack) (machine_blocks m.blocks) (slot_of m.slot) (world_of m.log)

-- what comes after a value, whatever comes in place of one
infixl 10 ◌>>=◌
abbrev pub ◌>>=◌ : {A B E : Type 0} → Result (A × State) E → (A × State → Result (B × State) E) → Result (B × State) E
(Ok x) >>= f = f x
(Err e) >>= f = Err e

-- ---- instructions

-- why an instruction does not go on: blocks are left for a reason, or the run ends
pub data Halted : Type 0 where
  Leaves : machine.Reason Known ℕ → State → Halted
  Ends : Ran Known → Halted

abbrev pub Did : Type 0 → Type 0
Did A = Result (A × State) Halted

abbrev pub Doing : Type 0 → Type 0
Doing A = State → Did A

abbrev pub ends : {A : Type 0} → Outcome Known → Doing A
ends o s = Err (Ends (ran s.world.events o))

abbrev pub leaves : {A : Type 0} → machine.Reason Known ℕ → Doing A
leaves r s = Err (Leaves r s)

-- an instruction stops so in this state; out of memory is free
abbrev pub Halts : {A : Type 0} → Stop → State → Did A → Type 0
Halts (Stop.Leaves r) s d = d ≡ Err (Leaves (reason_of r) s)
Halts Stop.Stopped s d = d ≡ Err (Ends (ran s.world.events Stopped))
Halts Stop.Wrong s d = d ≡ Err (Ends (ran s.world.events Wrong))
Halts Stop.Leaked s d = d ≡ Err (Ends (ran s.world.events Leaked))
Halts Stop.OutOfMemory s d = Unit {0}

-- what a call answered, seen by view, is what is done, and the state is the one that comes next
abbrev pub Does : {X A : Type 0} → (X → A) → Result X Stop → State → Did A → Type 0
Does view (Ok x) s d = d ≡ Ok (view x, s)
Does view (Err e) s d = Halts e s d

-- ---- runs

abbrev pub Run : Type 0 → Type 0
Run A = Result (A × State) (Ran Known)

abbrev pub Running : Type 0 → Type 0
Running A = State → Run A

abbrev pub fails : {A : Type 0} → Outcome Known → Running A
fails o s = Err (ran s.world.events o)

-- a configuration, seen as a run
abbrev pub run_of_config : Config Known ℕ → Run ℕ
run_of_config (At p s bs slot w) = Ok (p, state s bs slot w)
run_of_config (Over events o) = Err (ran events o)

-- a run ends so, with these events; out of memory is free
abbrev pub Fails : {A : Type 0} → End → List (Event Known) → Run A → Type 0
Fails (End.Returned e) events d = d ≡ Err (ran events (Returned (entry_of e)))
Fails (End.Raised n) events d = d ≡ Err (ran events (RaisedOut (raised_value n)))
Fails End.Stopped events d = d ≡ Err (ran events Stopped)
Fails End.Wrong events d = d ≡ Err (ran events Wrong)
Fails End.Leaked events d = d ≡ Err (ran events Leaked)
Fails End.OutOfMemory events d = Unit {0}

-- what a call answered, seen by view, is the run, and the state is the one that comes next
abbrev pub Runs : {X A : Type 0} → (X → A) → Result X End → State → Run A → Type 0
Runs view (Ok x) s d = d ≡ Ok (view x, s)
Runs view (Err e) s d = Fails e s.world.events d
