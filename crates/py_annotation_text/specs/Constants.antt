-- Constants as Python writes them.
use Rattle.std.specs.Prelude.{ℕ, ℤ, pos, negsuc, List, [], ◌∷◌, ◌++◌, codes}
use Rattle.std.specs.Fmt.{signed_decimal}
use Rattle.py_base.specs.Literal as literal
use Rattle.py_base.specs.Literal.{Literal, Literals}
use Rattle.py_quote.specs.Plain.{bool_text}
use Rattle.py_quote.specs.Quote.{quote, quote_bytes}
use Rattle.py_annotation_text.specs.Lists.{in_brackets, comma, separated_text}

-- a tuple of one element has a comma after it
abbrev pub tuple_end : Literals → List ℕ
tuple_end (literal.more_literals x literal.no_literals) = codes ",)"
tuple_end _ = codes ")"

abbrev mutual
  pub literal_text : Literal → List ℕ
  literal_text literal.None = codes "None"
  literal_text (literal.Bool b) = bool_text b
  literal_text (literal.Str s) = quote s
  literal_text (literal.Bytes s) = quote_bytes s
  literal_text (literal.Int z) = signed_decimal z
  literal_text (literal.Tuple items) = codes "(" ++ separated_text [] comma (literal_texts items) ++ tuple_end items
  literal_text literal.Ellipsis = codes "Ellipsis"

  pub literal_texts : Literals → List (List ℕ)
  literal_texts literal.no_literals = []
  literal_texts (literal.more_literals x xs) = literal_text x ∷ literal_texts xs

-- a negative integer is one after a sign
abbrev pub integer_level : ℤ → ℕ
integer_level (pos n) = 15
integer_level (negsuc n) = 13

-- a constant that is an expression: there `...` stands for Ellipsis
abbrev pub constant_text : Literal → (low : ℕ) → List ℕ
constant_text literal.None low = codes "None"
constant_text (literal.Bool b) low = bool_text b
constant_text (literal.Str s) low = quote s
constant_text (literal.Bytes s) low = quote_bytes s
constant_text (literal.Int z) low = in_brackets (integer_level z) low (signed_decimal z)
constant_text (literal.Tuple items) low = literal_text (literal.Tuple items)
constant_text literal.Ellipsis low = codes "..."
