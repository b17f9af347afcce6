-- Whether an await stands in an expression: in the bodies of lambdas, and in the elements and iterables of comprehensions, too, but not in the targets or conditions of their clauses, nor in defaults.
use Rattle.std.specs.Prelude.{Bool, true, false, ◌||◌}
use Rattle.py_tree.specs.Tree as tree

abbrev mutual
  pub awaits : tree.Expr → Bool
  awaits (tree.BoolOp at op values) = any_awaits values
  awaits (tree.NamedExpr at target value) = awaits target || awaits value
  awaits (tree.BinOp at left op right) = awaits left || awaits right
  awaits (tree.UnaryOp at op operand) = awaits operand
  awaits (tree.Lambda at params body) = awaits body
  awaits (tree.IfExp at test body orelse) = awaits test || awaits body || awaits orelse
  awaits (tree.Dict at keys values) = any_key_awaits keys || any_awaits values
  awaits (tree.Set at elts) = any_awaits elts
  awaits (tree.ListComp at elt clauses) = awaits elt || iter_awaits clauses
  awaits (tree.SetComp at elt clauses) = awaits elt || iter_awaits clauses
  awaits (tree.DictComp at key value clauses) = awaits key || awaits value || iter_awaits clauses
  awaits (tree.GeneratorExp at elt clauses) = awaits elt || iter_awaits clauses
  awaits (tree.Await at value) = true
  awaits (tree.Yield at value) = part_awaits value
  awaits (tree.YieldFrom at value) = awaits value
  awaits (tree.Compare at left ops comparators) = awaits left || any_awaits comparators
  awaits (tree.Call at func args named) = awaits func || any_awaits args || any_keyword_awaits named
  awaits (tree.FormattedValue at value conversion format_spec) = awaits value || part_awaits format_spec
  awaits (tree.JoinedStr at values) = any_awaits values
  awaits (tree.Constant at value) = false
  awaits (tree.Attribute at value attr) = awaits value
  awaits (tree.Subscript at value slice) = awaits value || awaits slice
  awaits (tree.Starred at value) = awaits value
  awaits (tree.Name at id) = false
  awaits (tree.List at elts) = any_awaits elts
  awaits (tree.Tuple at elts) = any_awaits elts
  awaits (tree.Slice at lower upper step) = part_awaits lower || part_awaits upper || part_awaits step

  pub any_awaits : tree.Exprs → Bool
  any_awaits tree.no_exprs = false
  any_awaits (tree.more_exprs e es) = awaits e || any_awaits es

  -- a part that may be missing
  pub part_awaits : tree.OptExpr → Bool
  part_awaits tree.no_expr = false
  part_awaits (tree.some_expr e) = awaits e

  pub any_key_awaits : tree.OptExprs → Bool
  any_key_awaits tree.no_opts = false
  any_key_awaits (tree.more_opts o os) = part_awaits o || any_key_awaits os

  pub any_keyword_awaits : tree.Keywords → Bool
  any_keyword_awaits tree.no_keywords = false
  any_keyword_awaits (tree.more_keywords arg value ks) = awaits value || any_keyword_awaits ks

  -- an iterable does
  pub iter_awaits : tree.Generators → Bool
  iter_awaits tree.no_generators = false
  iter_awaits (tree.more_generators target iter ifs is_async gs) = awaits iter || iter_awaits gs

-- a clause is async
abbrev pub some_async : tree.Generators → Bool
some_async tree.no_generators = false
some_async (tree.more_generators target iter ifs is_async gs) = is_async || some_async gs
