-- Quoted texts and bytes, as listings and annotations show them.
use Rattle.std.specs.Prelude.{ℕ, ◌/◌, ◌%◌, ◌==◌, ◌||◌, List, [], ◌∷◌, ◌++◌, false, nat_lt, if◌then◌else◌, codes}
use Rattle.std.specs.List.{flat_map}
use Rattle.std.specs.Char.{encode_utf8}
use Rattle.std.specs.Fmt.{digit_glyph}
use Rattle.std.specs.Str.{chars}

-- two hexadecimal digits, the letters in lower case
abbrev pub hex_digits : ℕ → List ℕ
hex_digits c = digit_glyph false (c / 16) ∷ digit_glyph false (c % 16) ∷ []

-- a quote or a backslash after a backslash; a control character by its number
abbrev pub quote_char : ℕ → List ℕ
quote_char c = if c == 39 || c == 92 then 92 ∷ c ∷ [] else (if nat_lt c 32 || c == 127 then 92 ∷ 120 ∷ hex_digits c else encode_utf8 c)

abbrev pub quote : List ℕ → List ℕ
quote text = 39 ∷ flat_map quote_char (chars text) ++ 39 ∷ []

-- the same of a byte; all but printable ASCII by its number
abbrev pub quote_byte : ℕ → List ℕ
quote_byte b = if b == 39 || b == 92 then 92 ∷ b ∷ [] else (if nat_lt b 32 || nat_lt 126 b then 92 ∷ 120 ∷ hex_digits b else b ∷ [])

abbrev pub quote_bytes : List ℕ → List ℕ
quote_bytes bs = codes "b'" ++ flat_map quote_byte bs ++ codes "'"
