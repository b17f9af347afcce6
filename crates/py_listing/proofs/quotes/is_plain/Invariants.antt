use Rattle.std.proofs.Common.{◌≡◌, ℕ, ◌<◌, [], ◌∷◌, get_or}
use Rattle.py_quote.specs.Quote.{quote_char}
use Rattle.py_listing.proofs.quotes.is_plain.Given as goal

abbrev pub invariant-loop-byte : goal.invariant-loop-byte
invariant-loop-byte l = (j d : ℕ) → j < l.byte-index → get_or l.bytes j d < 128 → quote_char (get_or l.bytes j d) ≡ get_or l.bytes j d ∷ []
