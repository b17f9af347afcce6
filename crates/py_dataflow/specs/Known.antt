-- What is computed of a place: a state whose marks are those of several walks.
use Rattle.std.specs.Prelude.{◌≡◌, ◌≢◌, ℕ, ◌+◌, ◌-◌, ◌^◌, ◌<◌, List, [], ◌∷◌, Bool, true, false, not, ◌&&◌, ◌||◌, ◌⊎◌, Option, Some, None, slice_get, length, nat_lt}
use Rattle.std.specs.List.{sum_by}
use Rattle.py_dataflow.specs.declared.flow.Mark.{Mark}
use Rattle.py_dataflow.specs.declared.flow.Branch.{Branch}
use Rattle.py_dataflow.specs.declared.flow.Flow.{Flow}
use Rattle.py_dataflow.specs.declared.info.InstructionInfo.{InstructionInfo}
use Rattle.py_dataflow.specs.declared.known.KnownState.{KnownState}
use Rattle.py_dataflow.specs.declared.known.Refused.{Refused}
use Rattle.py_dataflow.specs.declared.known.Change.{Change}
use Rattle.py_dataflow.specs.Flow.{flow_at}
use Rattle.py_dataflow.specs.Flat.{is_jump}
use Rattle.py_dataflow.specs.Walks.{Shape, State, state, rest_of, height_of, from_loop, has_block, enough, falls_enough, falls_to, jumps_to, Alike}

abbrev pub state_of : KnownState → State
state_of k = state k.height k.shape.items

abbrev pub known_at : Option (Option KnownState) → Option State
known_at None = None
known_at (Some None) = None
known_at (Some (Some k)) = Some (state_of k)

-- the state of a place, if a walk is known to reach it
abbrev pub state_at : List (Option KnownState) → ℕ → Option State
state_at ks k = known_at (slice_get ks k)

-- the blocks that stay in place where it jumps
abbrev pub branch_base : Branch → Shape → Shape
branch_base (Branch.Goes t g o) s = s
branch_base Branch.Breaks s = rest_of (from_loop s)
branch_base Branch.Continues s = from_loop s

abbrev pub joined_mark : Mark → Mark → Mark
joined_mark m n = record { kind = m.kind; height = m.height; plain = m.plain || n.plain; exit = m.exit || n.exit }

abbrev pub join : Shape → Shape → Shape
join [] t = []
join (m ∷ s) [] = m ∷ s
join (m ∷ s) (n ∷ t) = joined_mark m n ∷ join s t

-- a block that is marked both ways
abbrev pub Torn : Shape → Type 0
Torn [] = ⊥
Torn (m ∷ s) = ((m.plain ≡ true) × (m.exit ≡ true)) ⊎ Torn s

-- how many marks a shape lacks
abbrev pub lacked_marks : Bool → ℕ
lacked_marks true = 0
lacked_marks false = 1

abbrev pub lacking_in : Mark → ℕ
lacking_in m = lacked_marks m.plain + lacked_marks m.exit

abbrev pub missing_in : Shape → ℕ
missing_in [] = 0
missing_in (m ∷ s) = lacking_in m + missing_in s

abbrev pub missing_at : Option KnownState → ℕ
missing_at None = 0
missing_at (Some k) = missing_in k.shape.items

-- how many marks the known shapes lack
abbrev pub missing_marks : List (Option KnownState) → ℕ
missing_marks ks = sum_by missing_at ks

abbrev pub unknown_at : Option KnownState → ℕ
unknown_at None = 1
unknown_at (Some k) = 0

-- how many places no walk is known to reach
abbrev pub unknown : List (Option KnownState) → ℕ
unknown ks = sum_by unknown_at ks

-- the state of a place after one has arrived there
abbrev pub arrival : Option State → State → State
arrival None t = t
arrival (Some s) t = state s.height (join s.shape t.shape)

abbrev pub Fits : Option State → State → Type 0
Fits None t = Unit {0}
Fits (Some s) t = (s.height ≡ t.height) × Alike s.shape t.shape

-- a state arrives at a place, and fits what is known there
pub record Arrives (old new : List (Option KnownState)) (place : ℕ) (t : State) : Type 0 where
  pub long : length new ≡ length old
  pub fits : Fits (state_at old place) t
  pub there : state_at new place ≡ Some (arrival (state_at old place) t)
  pub others : (k : ℕ) → k ≢ place → state_at new k ≡ state_at old k
  pub whole : ¬ Torn (arrival (state_at old place) t).shape

-- the heights are not the same
abbrev pub IsUneven : Option State → State → Type 0
IsUneven None t = ⊥
IsUneven (Some s) t = s.height ≢ t.height

-- the shapes are not alike, or a block would be marked both ways
abbrev pub Unfit : Option State → State → Type 0
Unfit None t = Torn t.shape
Unfit (Some s) t = (s.height ≡ t.height) × ((¬ Alike s.shape t.shape) ⊎ (Alike s.shape t.shape × Torn (join s.shape t.shape)))

abbrev pub IsWhole : Option State → Type 0
IsWhole None = Unit {0}
IsWhole (Some s) = ¬ Torn s.shape

-- what a change did
abbrev pub Moves : Change → List (Option KnownState) → List (Option KnownState) → Type 0
Moves Change.Nothing old new = new ≡ old
Moves Change.Marks old new = (unknown new ≡ unknown old) × (missing_marks new < missing_marks old)
Moves Change.Place old new = unknown new < unknown old

abbrev pub combined_change : Change → Change → Change
combined_change Change.Nothing c = c
combined_change Change.Marks Change.Nothing = Change.Marks
combined_change Change.Marks Change.Marks = Change.Marks
combined_change Change.Marks Change.Place = Change.Place
combined_change Change.Place c = Change.Place

-- there are enough values, and the next height is below 2 ^ 32
abbrev pub falls_within : Flow → ℕ → Shape → Bool
falls_within f h s = falls_enough f h s && (not f.falls || nat_lt (h - f.takes + f.gives) (2 ^ 32))

abbrev pub jumps_within : Branch → ℕ → Shape → Bool
jumps_within (Branch.Goes t g o) h s = enough (height_of s) t 0 h && nat_lt (h - t + g) (2 ^ 32)
jumps_within Branch.Breaks h s = true
jumps_within Branch.Continues h s = true

abbrev pub flow_in : InstructionInfo → Flow
flow_in x = flow_at x.instr x.arg.0

-- an instruction passes at a state
pub record Passes (x : InstructionInfo) (s : State) : Type 0 where
  pub block : has_block (flow_in x).needs s.height s.shape ≡ true
  pub falls : falls_within (flow_in x) s.height s.shape ≡ true
  pub jumps : is_jump x.instr ≡ true → jumps_within (flow_in x).branch s.height s.shape ≡ true

-- it is refused for this reason
abbrev pub FailsAs : InstructionInfo → State → Refused → Type 0
FailsAs x s Refused.NoEnd = ⊥
FailsAs x s Refused.UnevenHeights = ⊥
FailsAs x s Refused.HeightOutOfRange = (falls_within (flow_in x) s.height s.shape ≡ false) ⊎ ((is_jump x.instr ≡ true) × (jumps_within (flow_in x).branch s.height s.shape ≡ false))
FailsAs x s Refused.BlockMismatch = has_block (flow_in x).needs s.height s.shape ≡ false
FailsAs x s Refused.OutOfMemory = Unit {0}

-- what is known after it
abbrev pub FallIs : InstructionInfo → State → Option KnownState → Type 0
FallIs x s None = (flow_in x).falls ≡ false
FallIs x s (Some k) = ((flow_in x).falls ≡ true) × (state_of k ≡ falls_to (flow_in x) s)

abbrev pub JumpIs : InstructionInfo → State → Option KnownState → Type 0
JumpIs x s None = is_jump x.instr ≡ false
JumpIs x s (Some k) = (is_jump x.instr ≡ true) × (state_of k ≡ jumps_to (flow_in x).branch s)

abbrev pub height_known : Option KnownState → ℕ
height_known None = 0
height_known (Some k) = k.height
