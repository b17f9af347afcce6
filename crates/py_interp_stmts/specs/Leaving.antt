-- How a `with` is entered and left.
use Rattle.std.specs.Prelude.{◌≡◌, ℕ, List, [], ◌∷◌, Bool, Result, Ok, Err}
use Rattle.py_bytecode.specs.Objects as const
use Rattle.py_bytecode.specs.Values.{exit_with, Value, Constant, Given, World, Operates, Ended, Normal, Halts, then_get, for_one, on_ended, throws, truth_of}
use Rattle.py_control.specs.Form.{exit_leave, exit_run}
use Rattle.py_answers.specs.declared.log.Halt.{Halt}
use Rattle.py_answers.specs.Told.{Known}
use Rattle.py_interp.specs.Acting.{Acting}
use Rattle.py_interp.specs.Doing.{Doing}

-- the truth of what the exit answers
abbrev pub exit_truth : (exit exception : Value Known) → Doing Bool
exit_truth x e w = then_get (for_one (Operates exit_with (x ∷ e ∷ [])) w) truth_of

-- how a `with` ends whose body ends so
abbrev pub exit_end : (exit : Value Known) → Ended Known → Ended Known
exit_end x ended = on_ended ended (λ w. exit_run x (Constant const.none) (λ t w1. Normal w1) w) (λ r w. exit_leave x r w) Halts

-- what was entered is left, the last one first; the numbers of the answers that have the exits
abbrev pub left_all : (exits : List ℕ) → Ended Known → Ended Known
left_all [] ended = ended
left_all (n ∷ ns) ended = exit_end (Given n 0) (left_all ns ended)

-- a part enters: the whole is, whatever the body, what leaves those that were entered
abbrev pub Enters : Result (Unit {0}) Halt → World Known → (exits : List ℕ) → (whole : Acting → Ended Known) → Type 0
Enters (Ok u) w exits whole = (body : Acting) → whole body ≡ left_all exits (body w)
Enters (Err (Halt.Raised n)) w exits whole = (body : Acting) → whole body ≡ left_all exits (throws (Given n 0) w)
Enters (Err Halt.Stopped) w exits whole = (body : Acting) → whole body ≡ Halts w.events
Enters (Err Halt.OutOfMemory) w exits whole = Unit {0}
