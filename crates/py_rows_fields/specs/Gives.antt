-- What a reader of rows answers.
use Rattle.std.specs.Prelude.{◌≡◌, Bool, Option, Some, None, Result, Ok, Err, if◌then◌else◌}
use Rattle.py_rows_fields.specs.declared.error.RowsError.{RowsError}
use Rattle.py_rows_fields.specs.declared.error.RowsError.TheVariants.{NotJson, NotRows, WrongRow, WideInteger, LaterRow, WrongKind, NamedTwice, TooDeep, NoMod, NotNamed, OutOfMemory}

-- this error is what reading gives, but as memory runs out, which is free
abbrev pub Fails : {Y : Type 0} → RowsError → Result Y RowsError → Type 0
Fails NotJson reading = reading ≡ Err NotJson
Fails NotRows reading = reading ≡ Err NotRows
Fails (WrongRow row) reading = reading ≡ Err (WrongRow row)
Fails (WideInteger row) reading = reading ≡ Err (WideInteger row)
Fails (LaterRow row) reading = reading ≡ Err (LaterRow row)
Fails (WrongKind row) reading = reading ≡ Err (WrongKind row)
Fails (NamedTwice row) reading = reading ≡ Err (NamedTwice row)
Fails (TooDeep row) reading = reading ≡ Err (TooDeep row)
Fails NoMod reading = reading ≡ Err NoMod
Fails (NotNamed row) reading = reading ≡ Err (NotNamed row)
Fails OutOfMemory reading = Unit {0}

-- what a call answered, seen by view, is exactly what reading gives, unless memory ran out
abbrev pub Gives : {X Y : Type 0} → (X → Y) → Result X RowsError → Result Y RowsError → Type 0
Gives view (Ok x) reading = reading ≡ Ok (view x)
Gives view (Err e) reading = Fails e reading

-- the value, or this error where there is none
abbrev pub or_fault : {A : Type 0} → RowsError → Option A → Result A RowsError
or_fault e None = Err e
or_fault e (Some x) = Ok x

-- x, where the test holds, or this error
abbrev pub where_holds : {A : Type 0} → Bool → RowsError → A → Result A RowsError
where_holds b e x = if b then Ok x else Err e

infixl 10 ◌>>=◌
abbrev pub ◌>>=◌ : {A B : Type 0} → Result A RowsError → (A → Result B RowsError) → Result B RowsError
(Ok x) >>= f = f x
(Err e) >>= f = Err e
