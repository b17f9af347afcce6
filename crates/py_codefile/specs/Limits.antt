-- How long lists and texts are.
use Rattle.std.specs.Prelude.{ℕ, List, [], ◌∷◌, length, max, Option, Some, None}
use Rattle.py_bytecode.specs.Objects as obj
use Rattle.py_bytecode.specs.Objects.{Head, Const, Consts, Object, const_list}

-- the length of the longest, 0 where there is none
abbrev pub longest_text : List (List ℕ) → ℕ
longest_text [] = 0
longest_text (t ∷ ts) = max (length t) (longest_text ts)

-- a list of texts, and the texts in it
abbrev pub longest_of_names : List (List ℕ) → ℕ
longest_of_names ts = max (length ts) (longest_text ts)

abbrev pub longest_of_cells : {A : Type 0} → Option (List A) → ℕ
longest_of_cells None = 0
longest_of_cells (Some zs) = length zs

abbrev pub longest_in_heading : Head → ℕ
longest_in_heading h = max (length h.source_path) (length h.obj_name)

abbrev pub longest_in_tables : Head → ℕ
longest_in_tables h =
    max (longest_of_names h.names) (max (longest_of_names h.varnames) (max (longest_of_names h.cellvars) (max (longest_of_names h.freevars) (longest_of_cells h.cell2arg))))

abbrev mutual
  -- how long the longest list or text is, to any depth
  pub const_longest : Const → ℕ
  const_longest (obj.str t) = length t
  const_longest (obj.bytes bs) = length bs
  const_longest (obj.tuple cs) = max (length (const_list cs)) (consts_longest cs)
  const_longest (obj.code o) = longest o
  const_longest obj.none = 0
  const_longest (obj.boolean b) = 0
  const_longest (obj.integer z) = 0
  const_longest obj.ellipsis = 0

  pub consts_longest : Consts → ℕ
  consts_longest obj.no_consts = 0
  consts_longest (obj.more_consts c cs) = max (const_longest c) (consts_longest cs)

  pub longest : Object → ℕ
  longest (obj.object_of h cs) =
      max (longest_in_heading h) (max (length h.instructions) (max (length h.locations) (max (max (length (const_list cs)) (consts_longest cs)) (longest_in_tables h))))
