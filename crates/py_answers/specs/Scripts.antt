-- Scripts of answers, how they are written, and what answers they are.
use Rattle.std.specs.Prelude.{◌≡◌, ℕ, ◌<◌, ◌^◌, ◌==◌, List, [], ◌∷◌, map, length, Bool, true, false, codes, decimal, nat_lt, ◌&&◌, Option, Some, None, option_and_then, option_map, if◌then◌else◌}
use Rattle.std.specs.List.{join_with_byte, slice_split}
use Rattle.std.specs.Str.{bytes_eq}
use Rattle.std.specs.Str.Parse.{digits_value}
use Rattle.py_bytecode.specs.Values as values
use Rattle.py_answers.specs.declared.answers.Answer.{Answer}
use Rattle.py_answers.specs.declared.answers.Answer.TheVariants.{Gives, Done, Truth, End, Raised}

-- so many values an answer may give
abbrev pub IsCount : ℕ → Type 0
IsCount k = (0 < k) × (k < 2 ^ 22)

abbrev pub is_counted : Answer → Bool
is_counted (Gives k) = nat_lt 0 k && nat_lt k (2 ^ 22)
is_counted Done = true
is_counted (Truth b) = true
is_counted End = true
is_counted Raised = true

abbrev pub all_counted : List Answer → Bool
all_counted [] = true
all_counted (a ∷ rest) = is_counted a && all_counted rest

-- fewer than 2^16 answers, each of which gives a number of values that it may give
pub record IsScript (answers : List Answer) : Type 0 where
  pub few : length answers < 2 ^ 16
  pub counts : all_counted answers ≡ true

-- how an answer is written
abbrev pub answer_text : Answer → List ℕ
answer_text (Gives k) = 103 ∷ decimal k
answer_text Done = codes "d"
answer_text (Truth b) = if b then codes "t" else codes "f"
answer_text End = codes "e"
answer_text Raised = codes "r"

-- a script is written as its answers joined by commas
abbrev pub script_text : List Answer → List ℕ
script_text answers = join_with_byte 44 (map answer_text answers)

-- ---- the answers that a text spells, where it spells a script

-- the one answer that a piece can spell: by its letter, and for `g` by the digits after it
abbrev pub likely : (piece : List ℕ) → Answer
likely [] = Done
likely (c ∷ digits) =
    if c == 100 then Done else
    (if c == 116 then Truth true else
    (if c == 102 then Truth false else
    (if c == 101 then End else
    (if c == 114 then Raised else Gives (digits_value 10 digits)))))

abbrev pub answer_in : (piece : List ℕ) → Option Answer
answer_in piece = if is_counted (likely piece) && bytes_eq piece (answer_text (likely piece)) then Some (likely piece) else None

abbrev pub answers_in : (pieces : List (List ℕ)) → Option (List Answer)
answers_in [] = Some []
answers_in (p ∷ ps) = option_and_then (λ a. option_map (λ rest. a ∷ rest) (answers_in ps)) (answer_in p)

abbrev pub few_answers : (pieces : List (List ℕ)) → Option (List Answer)
few_answers ps = if nat_lt (length ps) (2 ^ 16) then answers_in ps else None

-- what stands between commas is fewer than 2^16 answers
abbrev pub script_in : (text : List ℕ) → Option (List Answer)
script_in text = if length text == 0 then Some [] else few_answers (slice_split (λ b. b == 44) text)

-- ---- answers as runs take them

abbrev pub answer_of : Answer → values.Answer
answer_of (Gives k) = values.Gives k
answer_of Done = values.Gives 0
answer_of (Truth b) = values.Truth b
answer_of End = values.End
answer_of Raised = values.Raised

abbrev pub answers_of : List Answer → List values.Answer
answers_of answers = map answer_of answers
