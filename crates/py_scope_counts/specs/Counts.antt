-- How many scopes stand in each expression, as they are scanned: annotations only where they are not postponed.
use Rattle.std.specs.Prelude.{◌≡◌, ℕ, suc, ◌+◌, ◌^◌, ◌≤◌, Bool, true, false, Option, None, Some, if◌then◌else◌}
use Rattle.py_tree.specs.Tree as tree

abbrev mutual
  pub scopes_in : (postponed : Bool) → tree.Expr → ℕ
  scopes_in p (tree.BoolOp at o operands) = scopes_in_all p operands
  scopes_in p (tree.NamedExpr at target value) = scopes_in p value + scopes_in p target
  scopes_in p (tree.BinOp at left o right) = scopes_in p left + scopes_in p right
  scopes_in p (tree.UnaryOp at o operand) = scopes_in p operand
  scopes_in p (tree.Lambda at params body) = scopes_in_defaults p params + suc (scopes_in p body + scopes_in_annotations p params)
  scopes_in p (tree.IfExp at t body orelse) = scopes_in p t + (scopes_in p body + scopes_in p orelse)
  scopes_in p (tree.Dict at keys others) = scopes_in_opts p keys + scopes_in_all p others
  scopes_in p (tree.Set at elts) = scopes_in_all p elts
  scopes_in p (tree.ListComp at elt clauses) = suc (scopes_in_clauses p clauses + scopes_in p elt)
  scopes_in p (tree.SetComp at elt clauses) = suc (scopes_in_clauses p clauses + scopes_in p elt)
  scopes_in p (tree.DictComp at key value clauses) = suc (scopes_in_clauses p clauses + (scopes_in p key + scopes_in p value))
  scopes_in p (tree.GeneratorExp at elt clauses) = suc (scopes_in_clauses p clauses + scopes_in p elt)
  scopes_in p (tree.Await at value) = scopes_in p value
  scopes_in p (tree.Yield at value) = scopes_in_opt p value
  scopes_in p (tree.YieldFrom at value) = scopes_in p value
  scopes_in p (tree.Compare at left ops others) = scopes_in p left + scopes_in_all p others
  scopes_in p (tree.Call at func args keywords) = scopes_in p func + (scopes_in_all p args + scopes_in_keywords p keywords)
  scopes_in p (tree.FormattedValue at value conversion spec) = scopes_in p value + scopes_in_opt p spec
  scopes_in p (tree.JoinedStr at parts) = scopes_in_all p parts
  scopes_in p (tree.Constant at value) = 0
  scopes_in p (tree.Attribute at value attr) = scopes_in p value
  scopes_in p (tree.Subscript at value slice) = scopes_in p value + scopes_in p slice
  scopes_in p (tree.Starred at value) = scopes_in p value
  scopes_in p (tree.Name at id) = 0
  scopes_in p (tree.List at elts) = scopes_in_all p elts
  scopes_in p (tree.Tuple at elts) = scopes_in_all p elts
  scopes_in p (tree.Slice at lower upper step) = scopes_in_opt p lower + (scopes_in_opt p upper + scopes_in_opt p step)

  -- expressions one after another
  pub scopes_in_all : (postponed : Bool) → tree.Exprs → ℕ
  scopes_in_all p tree.no_exprs = 0
  scopes_in_all p (tree.more_exprs e es) = scopes_in p e + scopes_in_all p es

  -- an expression that may be missing
  pub scopes_in_opt : (postponed : Bool) → tree.OptExpr → ℕ
  scopes_in_opt p tree.no_expr = 0
  scopes_in_opt p (tree.some_expr e) = scopes_in p e

  -- the keys of a dict display
  pub scopes_in_opts : (postponed : Bool) → tree.OptExprs → ℕ
  scopes_in_opts p tree.no_opts = 0
  scopes_in_opts p (tree.more_opts o os) = scopes_in_opt p o + scopes_in_opts p os

  -- the values of keywords
  pub scopes_in_keywords : (postponed : Bool) → tree.Keywords → ℕ
  scopes_in_keywords p tree.no_keywords = 0
  scopes_in_keywords p (tree.more_keywords name e ks) = scopes_in p e + scopes_in_keywords p ks

  -- also the first iterable, which is scanned after the comprehension's own scope
  pub scopes_in_clauses : (postponed : Bool) → tree.Generators → ℕ
  scopes_in_clauses p tree.no_generators = 0
  scopes_in_clauses p (tree.more_generators target iter ifs is_async gs) = scopes_in p iter + (scopes_in p target + (scopes_in_all p ifs + scopes_in_clauses p gs))

  -- the defaults of some parameters
  pub scopes_in_args : (postponed : Bool) → tree.Args → ℕ
  scopes_in_args p tree.no_args = 0
  scopes_in_args p (tree.more_args a default rest) = scopes_in_opt p default + scopes_in_args p rest

  -- in the defaults of parameters
  pub scopes_in_defaults : (postponed : Bool) → tree.Arguments → ℕ
  scopes_in_defaults p (tree.arguments posonly args vararg kwonly kwarg) = scopes_in_args p posonly + (scopes_in_args p args + scopes_in_args p kwonly)

  -- the annotation of a parameter, which may be postponed
  pub scopes_in_arg : (postponed : Bool) → tree.Arg → ℕ
  scopes_in_arg p (tree.arg at name annotation) = if p then 0 else scopes_in_opt p annotation

  -- that of a parameter that may be missing
  pub scopes_in_opt_arg : (postponed : Bool) → tree.OptArg → ℕ
  scopes_in_opt_arg p tree.no_arg = 0
  scopes_in_opt_arg p (tree.some_arg a) = scopes_in_arg p a

  -- the annotations of some parameters
  pub scopes_in_notes : (postponed : Bool) → tree.Args → ℕ
  scopes_in_notes p tree.no_args = 0
  scopes_in_notes p (tree.more_args a default rest) = scopes_in_arg p a + scopes_in_notes p rest

  -- in the annotations of parameters
  pub scopes_in_annotations : (postponed : Bool) → tree.Arguments → ℕ
  scopes_in_annotations true params = 0
  scopes_in_annotations false (tree.arguments posonly args vararg kwonly kwarg) =
      scopes_in_notes false posonly + (scopes_in_notes false args + (scopes_in_notes false kwonly + (scopes_in_opt_arg false vararg + scopes_in_opt_arg false kwarg)))

-- an annotation that may be postponed
abbrev pub scopes_in_annotation : (postponed : Bool) → tree.Expr → ℕ
scopes_in_annotation p e = if p then 0 else scopes_in p e

-- the annotation of what a function returns
abbrev pub scopes_in_returns : (postponed : Bool) → tree.OptExpr → ℕ
scopes_in_returns p e = if p then 0 else scopes_in_opt p e

-- none exactly where the sum has no usize, else the sum
abbrev pub IsSum : Option ℕ → ℕ → Type 0
IsSum None sum = 2 ^ 64 ≤ sum
IsSum (Some n) sum = n ≡ sum
