-- Where the code of a node leaves off in the source: at the last expression or statement that it enters. Targets are not entered.
use Rattle.std.specs.Prelude.{ℕ, List, [], ◌∷◌, ◌++◌, Option, Some, None}
use Rattle.py_tree.specs.Tree as tree
use Rattle.py_base.specs.declared.location.SourceLocation.{SourceLocation}
use Rattle.py_emission_parts.specs.Elements.{pairs, flat}
use Rattle.py_emission.specs.Texts.{texts_of}

-- the last of them, or where it was before
abbrev pub last_of : SourceLocation → List SourceLocation → SourceLocation
last_of at [] = at
last_of at (p ∷ ps) = last_of p ps

abbrev pub some_of : Option SourceLocation → List SourceLocation
some_of None = []
some_of (Some p) = p ∷ []

-- one text enters none of its parts
abbrev pub parts_entered : Option (List ℕ) → List SourceLocation → List SourceLocation
parts_entered (Some text) ps = []
parts_entered None ps = ps

abbrev mutual
  pub expr_end : tree.Expr → SourceLocation
  expr_end (tree.BoolOp at o operands) = last_of at (ends_of operands)
  expr_end (tree.NamedExpr at target value) = store_end (expr_end value) target
  expr_end (tree.BinOp at left o right) = expr_end right
  expr_end (tree.UnaryOp at o operand) = expr_end operand
  expr_end (tree.Lambda at params body) = expr_end body
  expr_end (tree.IfExp at t body orelse) = expr_end orelse
  expr_end (tree.Dict at keys others) = last_of at (flat (pairs (opts_ends keys) (ends_of others)))
  expr_end (tree.Set at elts) = last_of at (ends_of elts)
  expr_end (tree.ListComp at elt gs) = last_of at (first_iterable_end gs)
  expr_end (tree.SetComp at elt gs) = last_of at (first_iterable_end gs)
  expr_end (tree.DictComp at key value gs) = last_of at (first_iterable_end gs)
  expr_end (tree.GeneratorExp at elt gs) = last_of at (first_iterable_end gs)
  expr_end (tree.Await at value) = expr_end value
  expr_end (tree.Yield at value) = last_of at (some_of (opt_end value))
  expr_end (tree.YieldFrom at value) = expr_end value
  expr_end (tree.Compare at left ops others) = last_of (expr_end left) (ends_of others)
  expr_end (tree.Call at func args keywords) = last_of (last_of (expr_end func) (ends_of args)) (keyword_ends keywords)
  expr_end (tree.FormattedValue at value c spec) = last_of (expr_end value) (some_of (opt_end spec))
  expr_end (tree.JoinedStr at parts) = last_of at (parts_entered (texts_of parts) (ends_of parts))
  expr_end (tree.Constant at value) = at
  expr_end (tree.Attribute at value attr) = expr_end value
  expr_end (tree.Subscript at value slice) = expr_end slice
  expr_end (tree.Starred at value) = expr_end value
  expr_end (tree.Name at id) = at
  expr_end (tree.List at elts) = last_of at (ends_of elts)
  expr_end (tree.Tuple at elts) = last_of at (ends_of elts)
  expr_end (tree.Slice at lower upper step) = last_of at (some_of (opt_end lower) ++ (some_of (opt_end upper) ++ some_of (opt_end step)))

  pub ends_of : tree.Exprs → List SourceLocation
  ends_of tree.no_exprs = []
  ends_of (tree.more_exprs e es) = expr_end e ∷ ends_of es

  pub opt_end : tree.OptExpr → Option SourceLocation
  opt_end tree.no_expr = None
  opt_end (tree.some_expr e) = Some (expr_end e)

  pub opts_ends : tree.OptExprs → List (Option SourceLocation)
  opts_ends tree.no_opts = []
  opts_ends (tree.more_opts e es) = opt_end e ∷ opts_ends es

  -- the iterable of the first clause of a comprehension, which is entered last
  pub first_iterable_end : tree.Generators → List SourceLocation
  first_iterable_end tree.no_generators = []
  first_iterable_end (tree.more_generators target iter ifs is_async gs) = expr_end iter ∷ []

  pub keyword_ends : tree.Keywords → List SourceLocation
  keyword_ends tree.no_keywords = []
  keyword_ends (tree.more_keywords name e ks) = expr_end e ∷ keyword_ends ks

  -- after a store that begins there
  pub store_end : SourceLocation → tree.Expr → SourceLocation
  store_end p (tree.Attribute at value attr) = expr_end value
  store_end p (tree.Subscript at value slice) = expr_end slice
  store_end p (tree.Starred at value) = store_end p value
  store_end p (tree.List at elts) = stores_end p elts
  store_end p (tree.Tuple at elts) = stores_end p elts
  store_end p other = p

  pub stores_end : SourceLocation → tree.Exprs → SourceLocation
  stores_end p tree.no_exprs = p
  stores_end p (tree.more_exprs e es) = stores_end (store_end p e) es

-- after the arguments of a call
abbrev pub args_end : tree.Expr → tree.Exprs → SourceLocation
args_end func args = last_of (expr_end func) (ends_of args)

-- after a deletion that begins there
abbrev mutual
  pub delete_end : SourceLocation → tree.Expr → SourceLocation
  delete_end p (tree.Attribute at value attr) = expr_end value
  delete_end p (tree.Subscript at value slice) = expr_end slice
  delete_end p (tree.List at elts) = deletes_end p elts
  delete_end p (tree.Tuple at elts) = deletes_end p elts
  delete_end p other = p

  pub deletes_end : SourceLocation → tree.Exprs → SourceLocation
  deletes_end p tree.no_exprs = p
  deletes_end p (tree.more_exprs e es) = deletes_end (delete_end p e) es

-- after the target of an item, which is entered
abbrev pub item_end : SourceLocation → tree.OptExpr → SourceLocation
item_end at tree.no_expr = at
item_end at (tree.some_expr t) = store_end (tree.expr_location t) t

-- after the items of a `with` that stands there, where its body begins
abbrev pub items_end : SourceLocation → tree.WithItems → SourceLocation
items_end at tree.no_items = at
items_end at (tree.more_items e target tree.no_items) = item_end at target
items_end at (tree.more_items e target (tree.more_items f other items)) = items_end at (tree.more_items f other items)
