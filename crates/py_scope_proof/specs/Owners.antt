-- The nodes that have a scope of their own, as their scopes stand in one another and in the order in which a scan comes to them: the scope with a number is that of the node at that place.
use Rattle.std.specs.Prelude.{ℕ, suc, ◌+◌, List, [], ◌∷◌, ◌++◌, Bool, true, false, if◌then◌else◌}
use Rattle.py_tree.specs.Tree as tree

-- the whole tree; a lambda or a comprehension; a function or a class; what stands around the type parameters of a function, a class or an alias
pub data Owner : Type 0 where
  Whole : Owner
  Value : tree.Expr → Owner
  Own : tree.Stmt → Owner
  Hidden : tree.Stmt → Owner

-- nodes that stand in one scope: the first, what stands within its own scope, and what comes after it
pub data Grove : Type 0 where
  Bare : Grove
  Grown : Owner → (within behind : Grove) → Grove

-- one scope forest after another
infixr 10 ◌&◌
abbrev pub ◌&◌ : Grove → Grove → Grove
Bare & h = h
(Grown o within behind) & h = Grown o within (behind & h)

-- how many nodes these are
abbrev pub size : Grove → ℕ
size Bare = 0
size (Grown o within behind) = suc (size within + size behind)

-- a node, and the number of the scope that it stands in
pub record Placed : Type 0 where
  pub owner : Owner
  pub around : ℕ

-- they are listed in order: the scope forest stands in the scope with the number `here`, and `next` is the number of its first node
abbrev pub placed_owners : (here next : ℕ) → Grove → List Placed
placed_owners here n Bare = []
placed_owners here n (Grown o within behind) = record { owner = o; around = here } ∷ (placed_owners n (suc n) within ++ placed_owners here (suc n + size within) behind)

-- scope forests one after another
abbrev pub all_owners : List Grove → Grove
all_owners [] = Bare
all_owners (os ∷ rest) = os & all_owners rest

-- those in each key of a dict display before those in its value
abbrev pub by_turns : (keys others : List Grove) → Grove
by_turns [] others = all_owners others
by_turns (k ∷ ks) [] = k & by_turns ks []
by_turns (k ∷ ks) (o ∷ os) = k & (o & by_turns ks os)

abbrev mutual
  pub owners_in : (postponed : Bool) → tree.Expr → Grove
  owners_in p (tree.BoolOp at o operands) = owners_in_all p operands
  owners_in p (tree.NamedExpr at target value) = owners_in p value & owners_in p target
  owners_in p (tree.BinOp at left o right) = owners_in p left & owners_in p right
  owners_in p (tree.UnaryOp at o operand) = owners_in p operand
  owners_in p (tree.Lambda at params body) = owners_in_defaults p params & Grown (Value (tree.Lambda at params body)) (owners_in p body) (owners_in_annotations p params)
  owners_in p (tree.IfExp at t body orelse) = owners_in p t & (owners_in p body & owners_in p orelse)
  owners_in p (tree.Dict at keys others) = by_turns (owners_in_keys p keys) (owners_in_each p others)
  owners_in p (tree.Set at elts) = owners_in_all p elts
  owners_in p (tree.ListComp at elt clauses) = Grown (Value (tree.ListComp at elt clauses)) (owners_in_behind p clauses & owners_in p elt) (owners_in_first p clauses)
  owners_in p (tree.SetComp at elt clauses) = Grown (Value (tree.SetComp at elt clauses)) (owners_in_behind p clauses & owners_in p elt) (owners_in_first p clauses)
  owners_in p (tree.DictComp at key value clauses) = Grown (Value (tree.DictComp at key value clauses)) (owners_in_behind p clauses & (owners_in p key & owners_in p value)) (owners_in_first p clauses)
  owners_in p (tree.GeneratorExp at elt clauses) = Grown (Value (tree.GeneratorExp at elt clauses)) (owners_in_behind p clauses & owners_in p elt) (owners_in_first p clauses)
  owners_in p (tree.Await at value) = owners_in p value
  owners_in p (tree.Yield at value) = owners_in_opt p value
  owners_in p (tree.YieldFrom at value) = owners_in p value
  owners_in p (tree.Compare at left ops others) = owners_in p left & owners_in_all p others
  owners_in p (tree.Call at func args keywords) = owners_in p func & (owners_in_all p args & owners_in_keywords p keywords)
  owners_in p (tree.FormattedValue at value conversion spec) = owners_in p value & owners_in_opt p spec
  owners_in p (tree.JoinedStr at parts) = owners_in_all p parts
  owners_in p (tree.Constant at value) = Bare
  owners_in p (tree.Attribute at value attr) = owners_in p value
  owners_in p (tree.Subscript at value slice) = owners_in p value & owners_in p slice
  owners_in p (tree.Starred at value) = owners_in p value
  owners_in p (tree.Name at id) = Bare
  owners_in p (tree.List at elts) = owners_in_all p elts
  owners_in p (tree.Tuple at elts) = owners_in_all p elts
  owners_in p (tree.Slice at lower upper step) = owners_in_opt p lower & (owners_in_opt p upper & owners_in_opt p step)

  -- expressions one after another
  pub owners_in_all : (postponed : Bool) → tree.Exprs → Grove
  owners_in_all p tree.no_exprs = Bare
  owners_in_all p (tree.more_exprs e es) = owners_in p e & owners_in_all p es

  -- an expression that may be missing
  pub owners_in_opt : (postponed : Bool) → tree.OptExpr → Grove
  owners_in_opt p tree.no_expr = Bare
  owners_in_opt p (tree.some_expr e) = owners_in p e

  -- those in each of some expressions
  pub owners_in_each : (postponed : Bool) → tree.Exprs → List Grove
  owners_in_each p tree.no_exprs = []
  owners_in_each p (tree.more_exprs e es) = owners_in p e ∷ owners_in_each p es

  -- those in each key of a dict display
  pub owners_in_keys : (postponed : Bool) → tree.OptExprs → List Grove
  owners_in_keys p tree.no_opts = []
  owners_in_keys p (tree.more_opts o os) = owners_in_opt p o ∷ owners_in_keys p os

  -- the values of keywords
  pub owners_in_keywords : (postponed : Bool) → tree.Keywords → Grove
  owners_in_keywords p tree.no_keywords = Bare
  owners_in_keywords p (tree.more_keywords name e ks) = owners_in p e & owners_in_keywords p ks

  -- the iterable of the first clause, which stands outside the comprehension
  pub owners_in_first : (postponed : Bool) → tree.Generators → Grove
  owners_in_first p tree.no_generators = Bare
  owners_in_first p (tree.more_generators target iter ifs is_async gs) = owners_in p iter

  -- the clauses without it
  pub owners_in_behind : (postponed : Bool) → tree.Generators → Grove
  owners_in_behind p tree.no_generators = Bare
  owners_in_behind p (tree.more_generators target iter ifs is_async gs) = owners_in p target & (owners_in_all p ifs & owners_in_clauses p gs)

  -- clauses that have iterables of their own
  pub owners_in_clauses : (postponed : Bool) → tree.Generators → Grove
  owners_in_clauses p tree.no_generators = Bare
  owners_in_clauses p (tree.more_generators target iter ifs is_async gs) = owners_in p iter & (owners_in p target & (owners_in_all p ifs & owners_in_clauses p gs))

  -- the defaults of some parameters
  pub owners_in_args : (postponed : Bool) → tree.Args → Grove
  owners_in_args p tree.no_args = Bare
  owners_in_args p (tree.more_args a default rest) = owners_in_opt p default & owners_in_args p rest

  -- in the defaults of parameters
  pub owners_in_defaults : (postponed : Bool) → tree.Arguments → Grove
  owners_in_defaults p (tree.arguments posonly args vararg kwonly kwarg) = owners_in_args p posonly & (owners_in_args p args & owners_in_args p kwonly)

  -- the annotation of a parameter, which may be postponed
  pub owners_in_arg : (postponed : Bool) → tree.Arg → Grove
  owners_in_arg p (tree.arg at name annotation) = if p then Bare else owners_in_opt p annotation

  -- that of a parameter that may be missing
  pub owners_in_opt_arg : (postponed : Bool) → tree.OptArg → Grove
  owners_in_opt_arg p tree.no_arg = Bare
  owners_in_opt_arg p (tree.some_arg a) = owners_in_arg p a

  -- the annotations of some parameters
  pub owners_in_notes : (postponed : Bool) → tree.Args → Grove
  owners_in_notes p tree.no_args = Bare
  owners_in_notes p (tree.more_args a default rest) = owners_in_arg p a & owners_in_notes p rest

  -- in the annotations of parameters
  pub owners_in_annotations : (postponed : Bool) → tree.Arguments → Grove
  owners_in_annotations true params = Bare
  owners_in_annotations false (tree.arguments posonly args vararg kwonly kwarg) =
      owners_in_notes false posonly & (owners_in_notes false args & (owners_in_notes false kwonly & (owners_in_opt_arg false vararg & owners_in_opt_arg false kwarg)))

-- an annotation that may be postponed
abbrev pub owners_in_annotation : (postponed : Bool) → tree.Expr → Grove
owners_in_annotation p e = if p then Bare else owners_in p e

-- the annotation of what a function returns
abbrev pub owners_in_returns : (postponed : Bool) → tree.OptExpr → Grove
owners_in_returns p e = if p then Bare else owners_in_opt p e
