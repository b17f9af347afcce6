-- Booleans as Python writes them.
use Rattle.std.specs.Prelude.{ℕ, List, Bool, true, false, codes}

abbrev pub bool_text : Bool → List ℕ
bool_text true = codes "True"
bool_text false = codes "False"
