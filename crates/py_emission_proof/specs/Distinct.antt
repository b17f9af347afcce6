-- Tables of names: none stands twice, and none of one table stands in another.
use Rattle.std.specs.Prelude.{◌≡◌, ℕ, false, List, [], ◌∷◌}
use Rattle.std.specs.List.{list_any}
use Rattle.py_bytecode.specs.Equality.{text_eq}
use Rattle.py_bytecode.specs.Objects.{Object, head}

-- no name stands twice
abbrev pub AreDistinct : List (List ℕ) → Type 0
AreDistinct [] = Unit {0}
AreDistinct (x ∷ xs) = (list_any (text_eq x) xs ≡ false) × AreDistinct xs

-- no name of the first stands in the second
abbrev pub AreApart : List (List ℕ) → List (List ℕ) → Type 0
AreApart [] ys = Unit {0}
AreApart (x ∷ xs) ys = (list_any (text_eq x) ys ≡ false) × AreApart xs ys

-- no table of the code object has a name twice, and no name is both a cell and free
pub record HasDistinctNames (o : Object) : Type 0 where
  pub names : AreDistinct (head o).names
  pub varnames : AreDistinct (head o).varnames
  pub cellvars : AreDistinct (head o).cellvars
  pub freevars : AreDistinct (head o).freevars
  pub apart : AreApart (head o).cellvars (head o).freevars
