-- Codes among the constants of codes.
use Rattle.std.specs.Prelude.{ℕ, List, [], ◌∷◌, Option, Some, None, option_and_then, slice_get}
use Rattle.py_bytecode.specs.Objects.{Const, Object, none, boolean, str, bytes, integer, tuple, ellipsis, code, constants}

abbrev pub code_in : Const → Option Object
code_in none = None
code_in (boolean b) = None
code_in (str t) = None
code_in (bytes bs) = None
code_in (integer z) = None
code_in (tuple cs) = None
code_in ellipsis = None
code_in (code o) = Some o

-- the code at a place among the constants of a code, from 0
abbrev pub code_at : (place : ℕ) → Object → Option Object
code_at place o = option_and_then code_in (slice_get (constants o) place)

-- the code at the end of a path, each place of which is one among the constants of the code before
abbrev pub code_along : (path : List ℕ) → Object → Option Object
code_along [] o = Some o
code_along (place ∷ path) o = option_and_then (λ c. code_along path c) (code_at place o)
