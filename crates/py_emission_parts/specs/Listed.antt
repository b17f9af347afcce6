-- The list of instructions that steps come to, with the place where each block starts.
use Rattle.std.specs.Prelude.{◌≡◌, ◌⊎◌, ℕ, zero, suc, List, [], ◌∷◌, map, Bool, true, false, not, Option, Some, None, nat_eq, if◌then◌else◌}
use Rattle.std.specs.List.{range_with_len}
use Rattle.py_bytecode.specs.Table.{row_of}
use Rattle.py_dataflow.specs.declared.info.InstructionInfo.{InstructionInfo}
use Rattle.py_emission_parts.specs.Emitting.{Step, Put, Begin}

-- the number that stands for a block, and the one for none
abbrev pub number_of : Option ℕ → ℕ
number_of None = 0xffff_ffff
number_of (Some b) = b

-- the instructions, in order
abbrev pub items_in : List Step → List InstructionInfo
items_in [] = []
items_in (Put i n to at ∷ xs) = record { instr = i; arg = record { 0 = n }; target = record { 0 = number_of to }; location = at } ∷ items_in xs
items_in (Begin b ∷ xs) = items_in xs

-- nothing stays in a block after its first unconditional branch
abbrev pub cut_steps : (goes_on : Bool) → List Step → List Step
cut_steps goes_on [] = []
cut_steps goes_on (Begin b ∷ xs) = Begin b ∷ cut_steps true xs
cut_steps true (Put i n to at ∷ xs) = Put i n to at ∷ cut_steps (not (row_of i).leaves) xs
cut_steps false (Put i n to at ∷ xs) = cut_steps false xs

-- what is left at an optimization level
abbrev pub steps_at : (level : ℕ) → List Step → List Step
steps_at zero xs = xs
steps_at (suc level) xs = cut_steps true xs

-- how many instructions stand before the block begins
abbrev pub start_in : (block : ℕ) → List Step → ℕ
start_in b [] = 0
start_in b (Put i n to at ∷ xs) = suc (start_in b xs)
start_in b (Begin c ∷ xs) = if nat_eq b c then 0 else start_in b xs

-- the place where each of so many blocks starts; block 0 begins it all
abbrev pub starts_in : (blocks : ℕ) → List Step → List ℕ
starts_in blocks xs = map (λ b. start_in b (Begin 0 ∷ xs)) (range_with_len 0 blocks)

-- the block begins in these steps
abbrev pub Begun : ℕ → List Step → Type 0
Begun b [] = ⊥
Begun b (Put i n to at ∷ xs) = Begun b xs
Begun b (Begin c ∷ xs) = (b ≡ c) ⊎ Begun b xs
