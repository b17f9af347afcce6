-- What walks show of a place, and states that follow from one another.
use Rattle.std.specs.Prelude.{◌≡◌, ◌≢◌, ℕ, ◌≤◌, ◌^◌, List, [], length, true, Option, Some, None}
use Rattle.py_dataflow.specs.declared.known.KnownState.{KnownState}
use Rattle.py_dataflow.specs.declared.known.Refused.{Refused}
use Rattle.py_dataflow.specs.declared.known.Change.{Change}
use Rattle.py_dataflow.specs.Walks.{State, state, has_block, falls_enough, jumps_enough, Alike, Seen, Edge, Reached, LeavesEnd, UnevenHeights, HeightOutOfRange, BlockMismatch}
use Rattle.py_dataflow.specs.Known.{join, Torn, state_at, Moves}

-- a walk reaches the place with this state, or several do whose marks it joins
pub data Shown (look : ℕ → Option (Seen ℕ)) (k : ℕ) : State → Type 0 where
  One : (t : State) → Reached look 0 k t → Shown look k t
  Both : (r s t : State) → Shown look k s → Shown look k t → s.height ≡ t.height → Alike s.shape t.shape → r ≡ state s.height (join s.shape t.shape) → Shown look k r

-- the first has the height, the blocks and the marks of the second
pub record Covers (s t : State) : Type 0 where
  pub level : s.height ≡ t.height
  pub alike : Alike s.shape t.shape
  pub marks : join s.shape t.shape ≡ s.shape

-- the place has a state, which covers this one
pub record Covered (st : ℕ → Option State) (k : ℕ) (t : State) : Type 0 where
  pub by : State
  pub there : st k ≡ Some by
  pub covers : Covers by t

-- what stands at a place passes, and each edge from there leads to a state that covers where it leads
pub record Closed_at (st : ℕ → Option State) (s : State) (x : Seen ℕ) : Type 0 where
  pub block : has_block x.flow.needs s.height s.shape ≡ true
  pub falls : falls_enough x.flow s.height s.shape ≡ true
  pub jumps : x.target ≢ None → jumps_enough x.flow.branch s.height s.shape ≡ true
  pub edges : (k1 : ℕ) (t : State) → Edge x s k1 t → Covered st k1 t

pub record Closed (look : ℕ → Option (Seen ℕ)) (st : ℕ → Option State) : Type 0 where
  pub start : Covered st 0 (state 0 [])
  pub inside : (k : ℕ) (s : State) → st k ≡ Some s → look k ≢ None
  pub whole : (k : ℕ) (s : State) → st k ≡ Some s → ¬ Torn s.shape
  pub each : (k : ℕ) (s : State) (x : Seen ℕ) → st k ≡ Some s → look k ≡ Some x → Closed_at st s x

-- the states are shown by walks, and no block is marked both ways
pub record AllShown (look : ℕ → Option (Seen ℕ)) (count : ℕ) (ks : List (Option KnownState)) : Type 0 where
  pub long : length ks ≡ count
  pub shown : (k : ℕ) (s : State) → state_at ks k ≡ Some s → Shown look k s
  pub whole : (k : ℕ) (s : State) → state_at ks k ≡ Some s → ¬ Torn s.shape

-- what was covered still is
abbrev pub Grows : List (Option KnownState) → List (Option KnownState) → Type 0
Grows old new = (k : ℕ) (t : State) → Covered (state_at old) k t → Covered (state_at new) k t

-- what a refusal says of a place
abbrev pub RefusalAt : (ℕ → Option (Seen ℕ)) → Refused → ℕ → Type 0
RefusalAt look Refused.NoEnd k = LeavesEnd look 0 k
RefusalAt look Refused.UnevenHeights k = UnevenHeights look 0 k
RefusalAt look Refused.HeightOutOfRange k = HeightOutOfRange look 0 (2 ^ 32) k
RefusalAt look Refused.BlockMismatch k = BlockMismatch look 0 k
RefusalAt look Refused.OutOfMemory k = Unit {0}

-- a step over the states: they are still shown, what was covered still is, and it did so much
pub record Steps (look : ℕ → Option (Seen ℕ)) (count : ℕ) (old new : List (Option KnownState)) (change : Change) : Type 0 where
  pub shown : AllShown look count new
  pub grows : Grows old new
  pub moves : Moves change old new

-- nothing is left to do at a place
abbrev pub Settled : (ℕ → Option (Seen ℕ)) → List (Option KnownState) → ℕ → Type 0
Settled look ks k = (s : State) (x : Seen ℕ) → state_at ks k ≡ Some s → look k ≡ Some x → Closed_at (state_at ks) s x

-- all places but one have their state
abbrev pub SameBut : ℕ → List (Option KnownState) → List (Option KnownState) → Type 0
SameBut place old new = (k : ℕ) → k ≢ place → state_at new k ≡ state_at old k

-- each place up to this one has its state
abbrev pub SameTo : ℕ → List (Option KnownState) → List (Option KnownState) → Type 0
SameTo last old new = (k : ℕ) → k ≤ last → state_at new k ≡ state_at old k
