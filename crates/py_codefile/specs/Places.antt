-- Reading from left to right: a step reads a value at a place and gives the place after it, or the first bad field.
use Rattle.std.specs.Prelude.{◌≡◌, ℕ, List, Option, Some, None, Result, Ok, Err, refl}
use Rattle.std.specs.Coded.{Coded, code_by, coded×, coded_ℕ, coded_list}
use Rattle.py_codefile.specs.declared.error.ReadCodeError.{ReadCodeError}
use Rattle.py_codefile.specs.declared.error.ReadCodeError.TheVariants.{Magic, Truncated, BadOpcode, BadTag, BadText, ZeroLocation, TooDeep, Trailing, OutOfMemory}

-- what is left of a file, and the offset at which it begins
pub record Place : Type 0 where
  pub at : ℕ
  pub bytes : List ℕ

abbrev pub place_code : Coded Place
place_code = code_by (ℕ × List ℕ) (coded× coded_ℕ (coded_list coded_ℕ)) (λ p. (p.at, p.bytes)) (λ p. record { at = p.0; bytes = p.1 }) (λ _. refl)

abbrev pub Read : Type 0 → Type 0
Read A = Result (A × Place) ReadCodeError

abbrev pub Reading : Type 0 → Type 0
Reading A = Place → Read A

infixl 10 ◌>>=◌
abbrev pub ◌>>=◌ : {A B : Type 0} → Result A ReadCodeError → (A → Result B ReadCodeError) → Result B ReadCodeError
(Ok x) >>= f = f x
(Err e) >>= f = Err e

-- one value and then another
abbrev pub both : {A B : Type 0} → Reading A → Reading B → Reading (A × B)
both first second p = do
  x ← first p
  y ← second x.1
  Ok ((x.0, y.0), y.1)

-- a value, seen by f
abbrev pub map_reading : {A B : Type 0} → (A → B) → Reading A → Reading B
map_reading f reading p = do
  x ← reading p
  Ok (f x.0, x.1)

-- the value, or this error where there is none
abbrev pub or_fault : {A : Type 0} → ReadCodeError → Option A → Result A ReadCodeError
or_fault e None = Err e
or_fault e (Some x) = Ok x

-- this error is what reading gives, but as memory runs out, which is free
abbrev pub Fails : {Y : Type 0} → ReadCodeError → Result Y ReadCodeError → Type 0
Fails (Magic at) reading = reading ≡ Err (Magic at)
Fails (Truncated at) reading = reading ≡ Err (Truncated at)
Fails (BadOpcode at) reading = reading ≡ Err (BadOpcode at)
Fails (BadTag at) reading = reading ≡ Err (BadTag at)
Fails (BadText at) reading = reading ≡ Err (BadText at)
Fails (ZeroLocation at) reading = reading ≡ Err (ZeroLocation at)
Fails (TooDeep at) reading = reading ≡ Err (TooDeep at)
Fails (Trailing at) reading = reading ≡ Err (Trailing at)
Fails OutOfMemory reading = Unit {0}

-- what a call answered, seen by view, is exactly what reading gives, unless memory ran out
abbrev pub Gives : {X Y : Type 0} → (X → Y) → Result X ReadCodeError → Result Y ReadCodeError → Type 0
Gives view (Ok x) reading = reading ≡ Ok (view x)
Gives view (Err e) reading = Fails e reading
