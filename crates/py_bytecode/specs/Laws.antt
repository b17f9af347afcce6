-- Laws of constants: equality is sameness, and a constant that is entered again keeps its place.
use Rattle.std.specs.Prelude.{◌≡◌, ◌↔◌, ℕ, Bool, true, List, map, slice_get, Some}
use Rattle.std.specs.List.{position_or_len}
use Rattle.py_bytecode.specs.declared.code.ConstantData.{ConstantData}
use Rattle.py_bytecode.specs.declared.code.CodeObject.{CodeObject}
use Rattle.py_bytecode.specs.contracts.code.ConstantDataPartialEq.TheImpl as constants
use Rattle.py_bytecode.specs.contracts.code.CodeObjectPartialEq.TheImpl as objects
use Rattle.py_bytecode.specs.Equality.{const_eq, insert_if_new}
use Rattle.py_bytecode.specs.View.{constant, object}

-- what `==` answers
abbrev pub equal : ConstantData → ConstantData → Bool
equal = constants.ghosts.eq

abbrev pub equal_objects : CodeObject → CodeObject → Bool
equal_objects = objects.ghosts.eq

-- `==` holds exactly where two constants, or two code objects, are the same: where they lie in memory does not count
abbrev pub EqualIsSame : Type 0
EqualIsSame =
    ((a b : ConstantData) → (equal a b ≡ true) ↔ (constant a ≡ constant b))
    × ((a b : CodeObject) → (equal_objects a b ≡ true) ↔ (object a ≡ object b))

-- a constant that is entered among others stands at its place, those before it stay where they were, and the constants are those that the definitions enter
abbrev pub ConstantsKeepPlaces : Type 0
ConstantsKeepPlaces =
    (xs : List ConstantData) (x : ConstantData) →
    (map constant (insert_if_new equal xs x) ≡ insert_if_new const_eq (map constant xs) (constant x))
    × (position_or_len (equal x) xs ≡ position_or_len (const_eq (constant x)) (map constant xs))
    × (slice_get (map constant (insert_if_new equal xs x)) (position_or_len (equal x) xs) ≡ Some (constant x))
    × ((i : ℕ) (y : ConstantData) → slice_get xs i ≡ Some y → slice_get (insert_if_new equal xs x) i ≡ Some y)
