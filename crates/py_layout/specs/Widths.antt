-- Widths of instructions in units, and the offsets that follow from them.
use Rattle.std.specs.Prelude.{◌≡◌, ℕ, ◌+◌, ◌^◌, ◌<◌, ◌≤◌, List, length, take, sum, slice_index, slice_index_or, nat_lt, if◌then◌else◌}
use Rattle.py_layout.specs.declared.widths.Need.{Need}
use Rattle.py_layout.specs.declared.widths.Need.TheVariants.{Fixed, Jump}

-- how many units an operand takes, and five where no number of units is enough
abbrev pub width_for : ℕ → ℕ
width_for n = if nat_lt n 0x100 then 1 else (if nat_lt n 0x1_0000 then 2 else (if nat_lt n 0x100_0000 then 3 else (if nat_lt n (2 ^ 32) then 4 else 5)))

-- the number of units before the instruction at a place
abbrev pub offset : List ℕ → ℕ → ℕ
offset widths place = sum (take place widths)

-- a jump has one to four units, any other instruction those that its operand takes
abbrev pub IsWidth : Need → ℕ → Type 0
IsWidth (Fixed n) w = w ≡ n
IsWidth (Jump place) w = (1 ≤ w) × (w ≤ 4)

-- the least of these
abbrev pub narrowest : Need → ℕ
narrowest (Fixed n) = n
narrowest (Jump place) = 1

-- a jump's target lies at an offset that its units hold
abbrev pub Reaches : List ℕ → Need → ℕ → Type 0
Reaches widths (Fixed n) w = Unit {0}
Reaches widths (Jump place) w = width_for (offset widths place) ≤ w

-- a choice of widths
pub record Chosen (needs : List Need) (widths : List ℕ) : Type 0 where
  pub long : length widths ≡ length needs
  pub each : (k : ℕ) (d : Need) → k < length needs → IsWidth (slice_index_or needs k d) (slice_index widths k)

-- a choice of widths that fits
pub record Fits (needs : List Need) (widths : List ℕ) : Type 0 where
  pub chosen : Chosen needs widths
  pub reaches : (k : ℕ) (d : Need) → k < length needs → Reaches widths (slice_index_or needs k d) (slice_index widths k)

-- nowhere wider
abbrev pub AtMost : List ℕ → List ℕ → Type 0
AtMost widths others = (k : ℕ) → slice_index widths k ≤ slice_index others k

-- widths that fit, and nowhere wider than others that fit
pub record Least (needs : List Need) (widths : List ℕ) : Type 0 where
  pub fits : Fits needs widths
  pub least : (others : List ℕ) → Fits needs others → AtMost widths others

-- the offsets of the instructions, and last that of the end
pub record Offsets (widths offsets : List ℕ) : Type 0 where
  pub long : length offsets ≡ length widths + 1
  pub each : (place : ℕ) → place ≤ length widths → slice_index offsets place ≡ offset widths place

-- an instruction among so many
abbrev pub IsNeed : ℕ → Need → Type 0
IsNeed count (Fixed n) = (1 ≤ n) × (n ≤ 4)
IsNeed count (Jump place) = place ≤ count

-- every choice that fits has 2 ^ 32 units or more; so it is where none fits
abbrev pub TooManyUnits : List Need → Type 0
TooManyUnits needs = (widths : List ℕ) → Fits needs widths → 2 ^ 32 ≤ sum widths

-- the width that an instruction needs at these offsets
abbrev pub wanted_at : List ℕ → Need → ℕ
wanted_at offsets (Fixed n) = n
wanted_at offsets (Jump place) = width_for (slice_index offsets place)

-- the least widths, with their offsets and the number of units
pub record IsLayout (needs : List Need) (widths offsets : List ℕ) (units : ℕ) : Type 0 where
  pub least : Least needs widths
  pub offsets_of : Offsets widths offsets
  pub total : units ≡ sum widths
  pub within : units < 2 ^ 32
