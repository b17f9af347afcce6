-- Where a part of a program stops, the program stops.
use Rattle.std.proofs.Common.{◌≡◌, List, ap, ◌∙◌}
use Rattle.py_bytecode.specs.Values.{Event}
use Rattle.py_answers.specs.Told.{Known}
use Rattle.py_step_machine.specs.declared.held.End.{End}
use Rattle.py_step_machine.specs.declared.held.Stop.{Stop}
use Rattle.py_step_machine.specs.State.{State, Did, Run, ◌>>=◌, Halts, Fails}

-- ---- instructions

pub halts_on : {A B : Type 0} (e : Stop) (s : State) (d : Did A) (k : A × State → Did B) → Halts e s d → Halts e s (d >>= k)
halts_on (Stop.Leaves r) s d k h = ap (λ z. z >>= k) h
halts_on Stop.Stopped s d k h = ap (λ z. z >>= k) h
halts_on Stop.Wrong s d k h = ap (λ z. z >>= k) h
halts_on Stop.Leaked s d k h = ap (λ z. z >>= k) h
halts_on Stop.OutOfMemory s d k h = tt

-- what equals a program that stops, stops
pub halts_same : {A : Type 0} (e : Stop) (s : State) (d c : Did A) → c ≡ d → Halts e s d → Halts e s c
halts_same (Stop.Leaves r) s d c is h = is ∙ h
halts_same Stop.Stopped s d c is h = is ∙ h
halts_same Stop.Wrong s d c is h = is ∙ h
halts_same Stop.Leaked s d c is h = is ∙ h
halts_same Stop.OutOfMemory s d c is h = tt

-- ---- runs

pub fails_on : {A B : Type 0} (e : End) (events : List (Event Known)) (d : Run A) (k : A × State → Run B) → Fails e events d → Fails e events (d >>= k)
fails_on (End.Returned x) events d k h = ap (λ z. z >>= k) h
fails_on (End.Raised n) events d k h = ap (λ z. z >>= k) h
fails_on End.Stopped events d k h = ap (λ z. z >>= k) h
fails_on End.Wrong events d k h = ap (λ z. z >>= k) h
fails_on End.Leaked events d k h = ap (λ z. z >>= k) h
fails_on End.OutOfMemory events d k h = tt

-- what equals a program that ends the run, ends it
pub fails_same : {A : Type 0} (e : End) (events : List (Event Known)) (d c : Run A) → c ≡ d → Fails e events d → Fails e events c
fails_same (End.Returned x) events d c is h = is ∙ h
fails_same (End.Raised n) events d c is h = is ∙ h
fails_same End.Stopped events d c is h = is ∙ h
fails_same End.Wrong events d c is h = is ∙ h
fails_same End.Leaked events d c is h = is ∙ h
fails_same End.OutOfMemory events d c is h = tt
