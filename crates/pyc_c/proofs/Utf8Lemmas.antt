-- What the test of UTF-8 answers of bytes that are none.
use Rattle.std.proofs.Common.{◌≡◌, List, ℕ, Bool, true, false, refl}
use Rattle.std.proofs.lemmas.Str.{IsUtf8-from_is_utf8}
use Rattle.std.specs.Str.{IsUtf8, is_utf8}

not_true : (b : Bool) → (b ≡ true → ⊥) → b ≡ false
not_true true contrary = absurd (contrary refl)
not_true false contrary = refl

pub no_text : (bytes : List ℕ) → ¬ IsUtf8 bytes → is_utf8 bytes ≡ false
no_text bytes other = not_true (is_utf8 bytes) (λ e. other (IsUtf8-from_is_utf8 bytes e))
