-- The nodes that have a scope of their own in statements and in whole trees, in the order in which a scan comes to them.
use Rattle.std.specs.Prelude.{List, ◌∷◌, Bool, false, ◌||◌, Some, None}
use Rattle.py_tree.specs.Tree as tree
use Rattle.py_tree.specs.declared.modules.Mode.{Mode}
use Rattle.py_tree.specs.declared.modules.Mode.TheVariants as mode
use Rattle.py_emission.specs.Texts.{after_doc}
use Rattle.py_emission.specs.Futures.{future_of, postpones}
use Rattle.py_scope_proof.specs.Owners.{Owner, Whole, Own, Hidden, Grove, Bare, Grown, ◌&◌, Placed, placed_owners, owners_in, owners_in_all, owners_in_annotation, owners_in_defaults, owners_in_keywords, owners_in_notes, owners_in_opt, owners_in_opt_arg, owners_in_returns}

-- the annotations of all parameters
abbrev pub owners_in_all_notes : (postponed : Bool) → tree.Arguments → Grove
owners_in_all_notes p (tree.arguments posonly args vararg kwonly kwarg) =
    owners_in_notes p posonly & (owners_in_notes p args & (owners_in_notes p kwonly & (owners_in_opt_arg p vararg & owners_in_opt_arg p kwarg)))

-- the bound of a type parameter
abbrev pub owners_in_param : (postponed : Bool) → tree.TypeParam → Grove
owners_in_param p (tree.TypeVar at name bound) = owners_in_opt p bound
owners_in_param p (tree.ParamSpec at name) = Bare
owners_in_param p (tree.TypeVarTuple at name) = Bare

-- the bounds of type parameters
abbrev pub owners_in_params : (postponed : Bool) → tree.TypeParams → Grove
owners_in_params p tree.no_type_params = Bare
owners_in_params p (tree.more_type_params t ts) = owners_in_param p t & owners_in_params p ts

-- type parameters, with the scope around them and what stands in it, where there are any
abbrev pub around : Owner → (params within : Grove) → tree.TypeParams → Grove
around hidden params within tree.no_type_params = within
around hidden params within (tree.more_type_params t ts) = Grown hidden (params & within) Bare

-- the defaults of a function come before it, and where there are type parameters after the scope around these
abbrev pub around_function : Owner → (params defaults within : Grove) → tree.TypeParams → Grove
around_function hidden params defaults within tree.no_type_params = defaults & within
around_function hidden params defaults within (tree.more_type_params t ts) = Grown hidden (params & within) defaults

-- the items of a `with`
abbrev pub owners_in_items : (postponed : Bool) → tree.WithItems → Grove
owners_in_items p tree.no_items = Bare
owners_in_items p (tree.more_items e target items) = owners_in p e & (owners_in_opt p target & owners_in_items p items)

-- an exception and its cause; a cause alone, which no program has, is not compiled
abbrev pub owners_in_raise : (postponed : Bool) → (exc cause : tree.OptExpr) → Grove
owners_in_raise p tree.no_expr cause = Bare
owners_in_raise p (tree.some_expr e) cause = owners_in p e & owners_in_opt p cause

abbrev mutual
  pub owners_in_stmt : (postponed : Bool) → tree.Stmt → Grove
  owners_in_stmt p (tree.FunctionDef at name params body decorators returns generic) =
      let s = tree.FunctionDef at name params body decorators returns generic in
      owners_in_all p decorators & around_function (Hidden s) (owners_in_params p generic) (owners_in_defaults p params) (Grown (Own s) (owners_in_stmts p body) (owners_in_returns p returns & owners_in_all_notes p params)) generic
  owners_in_stmt p (tree.AsyncFunctionDef at name params body decorators returns generic) = Bare
  owners_in_stmt p (tree.ClassDef at name bases keywords body decorators generic) =
      let s = tree.ClassDef at name bases keywords body decorators generic in
      owners_in_all p decorators & around (Hidden s) (owners_in_params p generic) (Grown (Own s) (owners_in_stmts p body) (owners_in_all p bases & owners_in_keywords p keywords)) generic
  owners_in_stmt p (tree.Return at value) = owners_in_opt p value
  owners_in_stmt p (tree.Delete at targets) = owners_in_all p targets
  owners_in_stmt p (tree.Assign at targets value) = owners_in p value & owners_in_all p targets
  owners_in_stmt p (tree.TypeAlias at name generic value) = around (Hidden (tree.TypeAlias at name generic value)) (owners_in_params p generic) (owners_in p value) generic & owners_in p name
  owners_in_stmt p (tree.AugAssign at target o value) = owners_in p target & owners_in p value
  owners_in_stmt p (tree.AnnAssign at target annotation value simple) = owners_in_opt p value & (owners_in p target & owners_in_annotation p annotation)
  owners_in_stmt p (tree.For at target iter body orelse) = owners_in p iter & (owners_in p target & (owners_in_stmts p body & owners_in_stmts p orelse))
  owners_in_stmt p (tree.AsyncFor at target iter body orelse) = Bare
  owners_in_stmt p (tree.While at t body orelse) = owners_in p t & (owners_in_stmts p body & owners_in_stmts p orelse)
  owners_in_stmt p (tree.If at t body orelse) = owners_in p t & (owners_in_stmts p body & owners_in_stmts p orelse)
  owners_in_stmt p (tree.With at items body) = owners_in_items p items & owners_in_stmts p body
  owners_in_stmt p (tree.AsyncWith at items body) = Bare
  owners_in_stmt p (tree.Match at subject branches) = Bare
  owners_in_stmt p (tree.Raise at exc cause) = owners_in_raise p exc cause
  owners_in_stmt p (tree.Try at body excepts orelse finalbody) = owners_in_stmts p body & (owners_in_handlers p excepts & (owners_in_stmts p orelse & owners_in_stmts p finalbody))
  owners_in_stmt p (tree.TryStar at body excepts orelse finalbody) = Bare
  owners_in_stmt p (tree.Assert at t msg) = owners_in p t & owners_in_opt p msg
  owners_in_stmt p (tree.Import at names) = Bare
  owners_in_stmt p (tree.ImportFrom at path names level) = Bare
  owners_in_stmt p (tree.Global at names) = Bare
  owners_in_stmt p (tree.Nonlocal at names) = Bare
  owners_in_stmt p (tree.StmtExpr at value) = owners_in p value
  owners_in_stmt p (tree.Pass at) = Bare
  owners_in_stmt p (tree.Break at) = Bare
  owners_in_stmt p (tree.Continue at) = Bare

  -- statements one after another
  pub owners_in_stmts : (postponed : Bool) → tree.Stmts → Grove
  owners_in_stmts p tree.no_stmts = Bare
  owners_in_stmts p (tree.more_stmts s ss) = owners_in_stmt p s & owners_in_stmts p ss

  -- the handlers of a `try`
  pub owners_in_handlers : (postponed : Bool) → tree.Handlers → Grove
  owners_in_handlers p tree.no_handlers = Bare
  owners_in_handlers p (tree.more_handlers type name body rest) = owners_in_opt p type & (owners_in_stmts p body & owners_in_handlers p rest)

-- after future imports, which postpone the annotations of what follows
abbrev pub owners_behind : (postponed : Bool) → tree.Stmts → Grove
owners_behind p tree.no_stmts = Bare
owners_behind p (tree.more_stmts s ss) = elim (future_of s) [
  | None ↦ owners_in_stmts p (tree.more_stmts s ss)
  | Some f ↦ owners_behind (p || postpones f) ss
]

-- at a prompt, where expressions may stand before future imports
abbrev pub owners_at_prompt : (postponed : Bool) → tree.Stmts → Grove
owners_at_prompt p tree.no_stmts = Bare
owners_at_prompt p (tree.more_stmts (tree.StmtExpr at value) ss) = owners_in p value & owners_at_prompt p ss
owners_at_prompt p (tree.more_stmts s ss) = elim (future_of s) [
  | None ↦ owners_in_stmts p (tree.more_stmts s ss)
  | Some f ↦ owners_at_prompt (p || postpones f) ss
]

-- what is entered at a prompt, or stands in a file whose last value is given
abbrev pub owners_entered : Mode → tree.Stmts → Grove
owners_entered mode.Single ss = owners_at_prompt false ss
owners_entered other ss = owners_behind false ss

-- the whole tree at place 0, as if it stood in itself, and after it what stands in it
abbrev pub in_whole : Grove → List Placed
in_whole g = record { owner = Whole; around = 0 } ∷ placed_owners 0 1 g

-- the nodes of a tree that have a scope
abbrev pub owners_of : tree.Mod → Mode → List Placed
owners_of (tree.Module stmts) m = in_whole (owners_behind false (after_doc stmts))
owners_of (tree.Interactive stmts) m = in_whole (owners_entered m stmts)
owners_of (tree.Expression value) m = in_whole (owners_in false value)
owners_of other m = in_whole Bare
