-- What a text is after that of an expression is appended.
use Rattle.std.specs.Prelude.{◌≡◌, ℕ, List, Bool, true, false, Option, Some, None}
use Rattle.py_emission.specs.Texts.{joined_text}

-- the text, where there is one, stands after what was there
abbrev pub Appended : (is_text : Bool) → Option (List ℕ) → (before after : List ℕ) → Type 0
Appended true text before after = joined_text (Some before) text ≡ Some after
Appended false text before after = text ≡ None
