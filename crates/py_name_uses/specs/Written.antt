-- Names as a class writes them.
use Rattle.std.specs.Prelude.{◌≡◌, List, Option}
use Rattle.std.specs.List.{list_any}
use Rattle.py_base.specs.Mangle.{mangled_in}
use Rattle.py_scope.specs.Names.{Name, same_name}

-- a name is among these where the class writes one of the names so
abbrev pub AreWritten : (class : Option Name) (names these : List Name) → Type 0
AreWritten class names these = (n : Name) → list_any (same_name n) these ≡ list_any (λ m. same_name (mangled_in class m) n) names
