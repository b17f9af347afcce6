-- What it is for a code object to agree with a scope.
use Rattle.std.specs.Prelude.{ℕ, zero, suc, List}
use Rattle.py_bytecode.specs.Objects.{Object, constants, codes_in}
use Rattle.py_bytecode.specs.Values.{Answer}
use Rattle.py_bytecode.specs.Units.{machine}
use Rattle.py_control.specs.Form.{Scope, Interp}
use Rattle.py_control.specs.View.{View, whole, plain, ran_to}
use Rattle.py_control.specs.Agree.{form_of, fully, plainly, meaning_by, SameRan, OneOf, AllOf, kids}

-- For each finite list of answers the machine on the code object does what the scope means, under a view; each code object
-- among its constants agrees with a scope that stands directly in it, and each such scope with such a code object, down to n levels.
abbrev pub Agrees : View → (Scope → Interp Scope) → (n : ℕ) → Object → Scope → Type 0
Agrees v view zero o s = Unit {0}
Agrees v view (suc n) o s =
    ((answers : List Answer) → SameRan (Agrees v view n) (ran_to (λ k. k) v (machine o answers)) (meaning_by view s answers))
    × AllOf (λ k. OneOf (Agrees v view n) k (kids (form_of s))) (codes_in (constants o))
    × AllOf (λ t. OneOf (λ x k. Agrees v view n k x) t (codes_in (constants o))) (kids (form_of s))

-- scopes nest to a finite depth, so at every depth is at all
abbrev pub Agree : Object → Scope → Type 0
Agree o s = (n : ℕ) → Agrees plain plainly n o s

abbrev pub AgreeFull : Object → Scope → Type 0
AgreeFull o s = (n : ℕ) → Agrees whole fully n o s
