-- The names in imports, and what they ask of a module.
use Rattle.std.specs.Prelude.{ℕ, List, [], ◌∷◌, drop, map, Bool, Option, Some, None, codes, nat_eq}
use Rattle.std.specs.List.{list_any, slice_split}
use Rattle.py_tree.specs.declared.statements.Alias.{Alias}
use Rattle.py_bytecode.specs.Equality.{text_eq}
use Rattle.py_bytecode.specs.Objects as const
use Rattle.py_bytecode.specs.Objects.{Const, consts_of}
use Rattle.py_name_uses.specs.Parts.{bound_name, first_segment, is_future}

-- a future import
abbrev pub from_future : (path : Option (List ℕ)) → Bool
from_future path = is_future path

-- segments of a path stand between its dots: the first, which is the name of a package
abbrev pub package_name : (path : List ℕ) → List ℕ
package_name path = first_segment path

-- and those after it
abbrev pub further_segments : (path : List ℕ) → List (List ℕ)
further_segments path = drop 1 (slice_split (λ b. nat_eq b 46) path)

-- the name that a module is stored to: its own, or the first segment of its path
abbrev pub import_name : Alias → List ℕ
import_name a = bound_name a.asname a.name

-- another name, where there is one
abbrev pub name_or : (name : List ℕ) → Option (List ℕ) → List ℕ
name_or name None = name
name_or name (Some other) = other

-- the name that one of a module is stored to
abbrev pub taken_name : Alias → List ℕ
taken_name a = name_or a.name a.asname

-- one that stands for all names of a module
abbrev pub is_star : Alias → Bool
is_star a = text_eq a.name (codes "*")

abbrev pub takes_all : List Alias → Bool
takes_all names = list_any is_star names

-- the tuple of the names that a module is asked for
abbrev pub asked_tuple : List Alias → Const
asked_tuple names = const.tuple (consts_of (map (λ a. const.str a.name) names))

-- that of all names
abbrev pub asked_all : Const
asked_all = const.tuple (consts_of (const.str (codes "*") ∷ []))
