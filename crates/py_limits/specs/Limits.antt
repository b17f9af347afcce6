-- What a count against a limit answers.
use Rattle.std.specs.Prelude.{◌≡◌, ℕ, ◌+◌, ◌<◌, ◌≤◌, Option, None, Some}

-- none exactly where the number reaches the limit, else the number
abbrev pub IsBelow : Option ℕ → ℕ → ℕ → Type 0
IsBelow None limit n = limit ≤ n
IsBelow (Some m) limit n = (m ≡ n) × (n < limit)

-- none exactly where the number is above the most, else the number
abbrev pub IsAtMost : Option ℕ → ℕ → ℕ → Type 0
IsAtMost None most n = most < n
IsAtMost (Some m) most n = (m ≡ n) × (n ≤ most)

-- none exactly where the number does not fit into the room, else what is left of the room
abbrev pub IsLeft : Option ℕ → ℕ → ℕ → Type 0
IsLeft None room n = room < n
IsLeft (Some m) room n = m + n ≡ room
