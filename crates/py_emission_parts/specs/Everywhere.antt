-- What holds of a code object and of all code objects nested in it.
use Rattle.std.specs.Prelude.{ℕ, zero, suc}
use Rattle.py_bytecode.specs.Objects.{Object, constants, codes_in}
use Rattle.py_control.specs.Agree.{AllOf}

-- so of a code object, and of each code object among its constants, down to n levels
abbrev pub UpTo : (Object → Type 0) → (n : ℕ) → Object → Type 0
UpTo P zero o = Unit {0}
UpTo P (suc n) o = P o × AllOf (UpTo P n) (codes_in (constants o))

-- code objects nest to a finite depth, so at every depth is at all
abbrev pub Everywhere : (Object → Type 0) → Object → Type 0
Everywhere P o = (n : ℕ) → UpTo P n o
