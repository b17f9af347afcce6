-- Walks over instructions: the height of the stack and the blocks at each place, from an empty stack at the start.
use Rattle.std.specs.Prelude.{◌≡◌, ◌≢◌, ℕ, zero, suc, ◌+◌, ◌-◌, ◌≤◌, ◌⊎◌, List, [], ◌∷◌, Bool, true, false, not, ◌&&◌, Option, Some, None, nat_eq, nat_le, if◌then◌else◌}
use Rattle.std.specs.List.{AllZip}
use Rattle.py_bytecode.specs.Machine.{Fetched, Found, Nothing}
use Rattle.py_dataflow.specs.declared.flow.Kind.{Kind}
use Rattle.py_dataflow.specs.declared.flow.Mark.{Mark}
use Rattle.py_dataflow.specs.declared.flow.NeededBlock.{NeededBlock}
use Rattle.py_dataflow.specs.declared.flow.Opening.{Opening}
use Rattle.py_dataflow.specs.declared.flow.Branch.{Branch}
use Rattle.py_dataflow.specs.declared.flow.Flow.{Flow}
use Rattle.py_dataflow.specs.Flow.{flow_of, target_of}

-- the blocks, the innermost first
abbrev pub Shape : Type 0
Shape = List Mark

-- what is known at a place on a walk
pub record State : Type 0 where
  pub height : ℕ
  pub shape : Shape

abbrev pub state : ℕ → Shape → State
state h s = record { height = h; shape = s }

abbrev pub opened_mark : Opening → ℕ → Mark
opened_mark o h = record { kind = o.kind; height = h; plain = o.plain; exit = o.exit }

abbrev pub rest_of : Shape → Shape
rest_of [] = []
rest_of (m ∷ ms) = ms

abbrev pub height_of : Shape → ℕ
height_of [] = 0
height_of (m ∷ ms) = m.height

abbrev pub is_entered : Kind → Bool
is_entered Kind.Loop = true
is_entered Kind.Except = true
is_entered Kind.Finally = true
is_entered Kind.With = true
is_entered Kind.ExceptHandler = false
is_entered Kind.FinallyHandler = false

abbrev pub is_handler : Kind → Bool
is_handler Kind.ExceptHandler = true
is_handler _ = false

abbrev pub is_final : Kind → Bool
is_final Kind.FinallyHandler = true
is_final _ = false

abbrev pub is_loop : Kind → Bool
is_loop Kind.Loop = true
is_loop _ = false

abbrev pub is_with : Kind → Bool
is_with Kind.With = true
is_with _ = false

-- there is an innermost block, and it passes
abbrev pub tops : (Mark → Bool) → Shape → Bool
tops p [] = false
tops p (m ∷ ms) = p m

-- the blocks from the innermost loop on
abbrev pub from_loop : Shape → Shape
from_loop [] = []
from_loop (m ∷ ms) = if is_loop m.kind then m ∷ ms else from_loop ms

-- the height that is left where a block is cut away; from that of a `with` its exit is gone
abbrev pub left_by : Mark → ℕ
left_by m = if is_with m.kind then m.height - 1 else m.height

-- the height that a continue cuts to: that of the lowest block above the loop
abbrev pub cut_to : ℕ → Shape → ℕ
cut_to h [] = h
cut_to h (m ∷ ms) = if is_loop m.kind then h else cut_to (left_by m) ms

-- the block that is needed is there, at this height
abbrev pub has_block : NeededBlock → ℕ → Shape → Bool
has_block NeededBlock.Nothing h s = true
has_block NeededBlock.Entered h s = tops (λ m. is_entered m.kind) s
has_block NeededBlock.ExceptHandler h s = tops (λ m. is_handler m.kind) s
has_block NeededBlock.FinallyHandler h s = tops (λ m. is_final m.kind) s
has_block NeededBlock.NotExit h s = tops (λ m. is_final m.kind && nat_eq m.height h && not m.exit) s
has_block NeededBlock.NotPlain h s = tops (λ m. is_final m.kind && nat_eq m.height h && not m.plain) s
has_block NeededBlock.Loop h s = tops (λ m. true) (from_loop s)

-- the blocks that stay in place
abbrev pub kept_shape : Flow → Shape → Shape
kept_shape f s = if f.pops then rest_of s else s

abbrev pub with_opening : Option Opening → ℕ → Shape → Shape
with_opening None h s = s
with_opening (Some o) h s = opened_mark o h ∷ s

-- there are the values that are taken and looked at, and what is left is no lower than the innermost block that stays
abbrev pub enough : (floor takes looks h : ℕ) → Bool
enough floor t l h = nat_le (t + l) h && nat_le floor (h - t)

abbrev pub falls_enough : Flow → ℕ → Shape → Bool
falls_enough f h s = enough (height_of (kept_shape f s)) f.takes f.looks_at h

abbrev pub jumps_enough : Branch → ℕ → Shape → Bool
jumps_enough (Branch.Goes t g o) h s = enough (height_of s) t 0 h
jumps_enough Branch.Breaks h s = true
jumps_enough Branch.Continues h s = true

-- the state where the next instruction follows
abbrev pub falls_to : Flow → State → State
falls_to f t = state (t.height - f.takes + f.gives) (with_opening f.opens t.height (kept_shape f t.shape))

-- the state where it jumps
abbrev pub jumps_to : Branch → State → State
jumps_to (Branch.Goes t g o) s = state (s.height - t + g) (with_opening o s.height s.shape)
jumps_to Branch.Breaks s = state (height_of (from_loop s.shape)) (rest_of (from_loop s.shape))
jumps_to Branch.Continues s = state (cut_to s.height s.shape) (from_loop s.shape)

-- what a walk sees at a place: the flow of the instruction, the place after it, and where it jumps to
pub record Seen (P : Type 0) : Type 0 where
  pub flow : Flow
  pub next : P
  pub target : Option P

abbrev pub seen_instr : {K P : Type 0} → Fetched K P → Option (Seen P)
seen_instr Nothing = None
seen_instr (Found i n) = Some (record { flow = flow_of i; next = n; target = target_of i })

-- an edge, from what is seen in a state
pub data Edge {P : Type 0} (x : Seen P) (t : State) : P → State → Type 0 where
  Falls : x.flow.falls ≡ true → Edge x t x.next (falls_to x.flow t)
  Jumps : (q : P) → x.target ≡ Some q → Edge x t q (jumps_to x.flow.branch t)

-- the same kinds and heights
abbrev pub Alike : Shape → Shape → Type 0
Alike s t = AllZip (λ (m n : Mark). (m.kind ≡ n.kind) × (m.height ≡ n.height)) s t

-- a handler of a `finally` stands against one of a `with`
abbrev pub Clash : Shape → Shape → Type 0
Clash [] t = ⊥
Clash (m ∷ s) [] = ⊥
Clash (m ∷ s) (n ∷ t) = ((m.plain ≡ true) × (n.exit ≡ true)) ⊎ (((m.exit ≡ true) × (n.plain ≡ true)) ⊎ Clash s t)

abbrev pub Differ : Shape → Shape → Type 0
Differ s t = (¬ Alike s t) ⊎ Clash s t

module _ {P : Type 0} (look : P → Option (Seen P)) (start : P) where
  -- a walk of so many edges
  abbrev pub Walk : ℕ → P → State → Type 0
  Walk zero p t = (p ≡ start) × (t ≡ state 0 [])
  Walk (suc n) p t = (from : P) × (x : Seen P) × (s : State) × Walk n from s × (look from ≡ Some x) × Edge x s p t

  -- a walk reaches the place in this state
  abbrev pub Reached : P → State → Type 0
  Reached p t = (n : ℕ) × Walk n p t

  -- a walk reaches a place where nothing stands
  pub record LeavesEnd (p : P) : Type 0 where
    pub at : State
    pub reached : Reached p at
    pub nothing : look p ≡ None

  pub record UnevenHeights (p : P) : Type 0 where
    pub one : State
    pub other : State
    pub one_reached : Reached p one
    pub other_reached : Reached p other
    pub uneven : one.height ≢ other.height

  -- what is seen in a state leads to a height of `limit` or more
  pub record TooHigh (limit : ℕ) (x : Seen P) (t : State) : Type 0 where
    pub place : P
    pub to : State
    pub edge : Edge x t place to
    pub high : limit ≤ to.height

  -- there are too few values, or the next height is too great
  abbrev pub OutOfRange : ℕ → Seen P → State → Type 0
  OutOfRange limit x t = (falls_enough x.flow t.height t.shape ≡ false) ⊎ (((x.target ≢ None) × (jumps_enough x.flow.branch t.height t.shape ≡ false)) ⊎ TooHigh limit x t)

  pub record HeightOutOfRange (limit : ℕ) (p : P) : Type 0 where
    pub sees : Seen P
    pub at : State
    pub reached : Reached p at
    pub sees_is : look p ≡ Some sees
    pub outside : OutOfRange limit sees at

  pub record LacksBlock (p : P) : Type 0 where
    pub sees : Seen P
    pub at : State
    pub reached : Reached p at
    pub sees_is : look p ≡ Some sees
    pub lacks : has_block sees.flow.needs at.height at.shape ≡ false

  pub record ShapesDiffer (p : P) : Type 0 where
    pub one : State
    pub other : State
    pub one_reached : Reached p one
    pub other_reached : Reached p other
    pub differ : Differ one.shape other.shape

  abbrev pub BlockMismatch : P → Type 0
  BlockMismatch p = LacksBlock p ⊎ ShapesDiffer p

  -- no walk is refused anywhere, and no next height is `limit` or more
  pub record Sound (limit : ℕ) : Type 0 where
    pub ends : (p : P) → ¬ LeavesEnd p
    pub even : (p : P) → ¬ UnevenHeights p
    pub within : (p : P) → ¬ HeightOutOfRange limit p
    pub matched : (p : P) → ¬ BlockMismatch p

  -- the greatest height on a walk
  pub record IsDepth (depth : ℕ) : Type 0 where
    pub above : (p : P) (t : State) → Reached p t → t.height ≤ depth
    pub attained : (p : P) × (t : State) × Reached p t × (t.height ≡ depth)
