-- What C hands over, as the words of a run.
use Rattle.std.specs.Prelude.{ℕ, ◌==◌, List, [], ◌∷◌, codes, if◌then◌else◌}
use Rattle.std.specs.Str.{is_utf8}

-- the word of a mode, by its number; that of any other number is no mode
abbrev pub mode_word : ℕ → List ℕ
mode_word n =
    if n == 0 then codes "exec" else
    (if n == 1 then codes "eval" else
    (if n == 2 then codes "single" else
    (if n == 3 then codes "block" else [])))

-- the word of a level, by its number; that of any other number is no level
abbrev pub level_word : ℕ → List ℕ
level_word n =
    if n == 0 then codes "0" else
    (if n == 1 then codes "1" else
    (if n == 2 then codes "2" else []))

-- the words of the program, by the number of the output: those of a listing, of a file, of the listing of a file, of a
-- report on names. Of any other number there are none
abbrev pub asked_words : ℕ → (mode level path : List ℕ) → List (List ℕ)
asked_words n mode level path =
    if n == 0 then mode ∷ level ∷ path ∷ [] else
    (if n == 1 then codes "pack" ∷ mode ∷ level ∷ path ∷ [] else
    (if n == 2 then codes "unpack" ∷ [] else
    (if n == 3 then codes "names" ∷ path ∷ [] else [])))

-- the words of a run, or none where the path is not UTF-8
abbrev pub words_of : (output mode level : ℕ) → (path : List ℕ) → List (List ℕ)
words_of output mode level path = if is_utf8 path then asked_words output (mode_word mode) (level_word level) path else []
