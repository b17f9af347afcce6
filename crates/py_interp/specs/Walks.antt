-- What the interpreter of an expression does in the outermost scope: no class mangles names there, and of a child nothing is told but that it is one.
use Rattle.std.specs.Prelude.{ℕ, List, [], ◌∷◌, ◌++◌, length, Bool, true, false, Option, Some, None, codes, if◌then◌else◌}
use Rattle.py_tree.specs.Tree as tree
use Rattle.py_base.specs.declared.operators.UnaryOp.{UnaryOp}
use Rattle.py_base.specs.declared.operators.UnaryOp.TheVariants as unary
use Rattle.py_bytecode.specs.declared.instruction.Instruction.TheVariants as op
use Rattle.py_bytecode.specs.Objects as const
use Rattle.py_bytecode.specs.Values.{operation, Bare, Value, Constant, Unsaid, Load, Store, Operates, Accesses, Fine, then_get, ask_for, for_one, for_none, truth_of, choose, flip}
use Rattle.py_emission_parts.specs.Elements.{Single, Spread, pairs}
use Rattle.py_emission_parts.specs.TableParts.{binary, unary_operation, deciding_truth, debug_constant, is_debug, constant_of, conversion_case, counted_operation, named_operation, unpack_operation}
use Rattle.py_emission.specs.Texts.{texts_of}
use Rattle.py_meaning.specs.ExprFaults.{as_elements}
use Rattle.py_answers.specs.Told.{Known}
use Rattle.py_interp.specs.declared.around.Around.{Around}
use Rattle.py_interp.specs.Doing.{DefaultWalks, Doing, ExprWalk, KeywordWalks, TargetWalk, call, call_at_once, comparison_of, display, does, drop_it, get_entries, get_or, iterator, joined_value, lambda, none, ordinary, plain, put_each, shorts, slice, tested_walk, tests}

-- a name, or the constant `__debug__`
abbrev pub name_value : (level : ℕ) → (name : List ℕ) → Doing (Value Known)
name_value level id w = if is_debug id then Fine (Constant (debug_constant level)) w else for_one (Accesses Unsaid Load id 0 []) w

abbrev pub applied_unary : UnaryOp → ExprWalk → Doing (Value Known)
applied_unary o e w = then_get (e.value w) (λ x w1. does (unary_operation o) (x ∷ []) w1)

-- `not` turns the test of its operand
abbrev pub unary_test : UnaryOp → ExprWalk → Doing Bool
unary_test unary.Not e w = then_get (e.test w) (λ t w1. Fine (flip t) w1)
unary_test o e w = then_get (applied_unary o e w) truth_of

-- a sequence is unpacked to targets
abbrev pub unpack_to : tree.Exprs → List TargetWalk → Value Known → Doing (Unit {0})
unpack_to es ts v w = then_get (ask_for (Operates (unpack_operation (as_elements es)) (v ∷ [])) (Some (length (as_elements es))) w) (λ vs w1. put_each ts vs w1)

abbrev mutual
  pub walks : Around → tree.Expr → ExprWalk
  walks a (tree.BoolOp at o xs) = ordinary (shorts (deciding_truth o) (all_walks a xs)) (tests (deciding_truth o) (all_walks a xs))
  walks a (tree.NamedExpr at target value) = tested_walk (λ w. then_get ((walks a value).value w) (λ v w1. then_get ((target_walks a target).alone v w1) (λ d w2. Fine v w2)))
  walks a (tree.BinOp at left o right) = tested_walk (λ w. then_get ((walks a left).value w) (λ x w1. then_get ((walks a right).value w1) (λ y w2. does (binary o) (x ∷ y ∷ []) w2)))
  walks a (tree.UnaryOp at o e) = ordinary (applied_unary o (walks a e)) (unary_test o (walks a e))
  walks a (tree.Lambda at params body) = tested_walk (lambda (default_walks a params))
  walks a (tree.IfExp at t body orelse) = tested_walk (λ w. then_get ((walks a t).test w) (λ c w1. choose c ((walks a body).value w1) ((walks a orelse).value w1)))
  walks a (tree.Dict at keys others) = tested_walk (get_entries None 0 [] (pairs (key_walks a keys) (value_walks a others)))
  walks a (tree.Set at elts) = tested_walk (display op.BuildSet op.BuildSetUnpack (all_walks a elts))
  walks a (tree.ListComp at elt gs) = tested_walk (call_at_once (codes "<listcomp>") (first_walk a gs))
  walks a (tree.SetComp at elt gs) = tested_walk (call_at_once (codes "<setcomp>") (first_walk a gs))
  walks a (tree.DictComp at key value gs) = tested_walk (call_at_once (codes "<dictcomp>") (first_walk a gs))
  walks a (tree.GeneratorExp at elt gs) = tested_walk (call_at_once (codes "<genexpr>") (first_walk a gs))
  walks a (tree.Await at value) = tested_walk (λ w. Fine none w)
  walks a (tree.Yield at value) = tested_walk (λ w. then_get (get_or const.none (opt_walk a value) w) (λ x w1. does (operation op.YieldValue Bare) (x ∷ []) w1))
  walks a (tree.YieldFrom at value) = tested_walk (λ w. then_get (iterator (walks a value).value w) (λ it w1. does (operation op.YieldFrom Bare) (it ∷ none ∷ []) w1))
  walks a (tree.Compare at left ops others) = tested_walk (comparison_of (walks a left).value ops (all_walks a others))
  walks a (tree.Call at func args ks) = tested_walk (call (walks a func) (all_walks a args) (keyword_walks a ks))
  walks a (tree.FormattedValue at value c spec) =
      tested_walk (λ w. then_get ((walks a value).value w) (λ x w1. then_get (get_or (const.str []) (opt_walk a spec) w1) (λ y w2. does (counted_operation op.FormatValue (conversion_case c)) (x ∷ y ∷ []) w2)))
  walks a (tree.JoinedStr at parts) = tested_walk (joined_value (texts_of parts) (all_walks a parts))
  walks a (tree.Constant at v) = tested_walk (λ w. Fine (Constant (constant_of v)) w)
  walks a (tree.Attribute at e attr) = record (tested_walk (λ w. then_get ((walks a e).value w) (λ x w1. does (named_operation op.LoadAttr attr) (x ∷ []) w1))) {
    method = true;
    callee = λ w. then_get ((walks a e).value w) (λ x w1. ask_for (Operates (named_operation op.LoadMethod attr) (x ∷ [])) (Some 3) w1);
  }
  walks a (tree.Subscript at e index) = tested_walk (λ w. then_get ((walks a e).value w) (λ x w1. then_get ((walks a index).value w1) (λ y w2. does (operation op.Subscript Bare) (x ∷ y ∷ []) w2)))
  walks a (tree.Starred at e) = record (tested_walk (walks a e).value) { star = true }
  walks a (tree.Name at id) = tested_walk (name_value a.level id)
  walks a (tree.List at elts) = tested_walk (display op.BuildList op.BuildListUnpack (all_walks a elts))
  walks a (tree.Tuple at elts) = tested_walk (display op.BuildTuple op.BuildTupleUnpack (all_walks a elts))
  walks a (tree.Slice at lower upper step) = tested_walk (slice (opt_walk a lower) (opt_walk a upper) (opt_walk a step))

  pub all_walks : Around → tree.Exprs → List ExprWalk
  all_walks a tree.no_exprs = []
  all_walks a (tree.more_exprs e es) = walks a e ∷ all_walks a es

  pub value_walks : Around → tree.Exprs → List (Doing (Value Known))
  value_walks a tree.no_exprs = []
  value_walks a (tree.more_exprs e es) = (walks a e).value ∷ value_walks a es

  -- where there is one
  pub opt_walk : Around → tree.OptExpr → Option (Doing (Value Known))
  opt_walk a tree.no_expr = None
  opt_walk a (tree.some_expr e) = Some (walks a e).value

  pub key_walks : Around → tree.OptExprs → List (Option (Doing (Value Known)))
  key_walks a tree.no_opts = []
  key_walks a (tree.more_opts o os) = opt_walk a o ∷ key_walks a os

  pub keyword_walks : Around → tree.Keywords → KeywordWalks
  keyword_walks a tree.no_keywords = []
  keyword_walks a (tree.more_keywords None e ks) = Spread (walks a e).value ∷ keyword_walks a ks
  keyword_walks a (tree.more_keywords (Some name) e ks) = Single (name, (walks a e).value) ∷ keyword_walks a ks

  -- the iterable of the first clause of a comprehension, which alone is evaluated outside
  pub first_walk : Around → tree.Generators → Doing (Value Known)
  first_walk a tree.no_generators = λ w. Fine none w
  first_walk a (tree.more_generators target iter ifs is_async gs) = (walks a iter).value

  -- positional ones come first
  pub default_walks : Around → tree.Arguments → DefaultWalks
  default_walks a (tree.arguments posonly args vararg kwonly kwarg) = record { positional = positional_walks a posonly ++ positional_walks a args; keyword = keyword_only_walks a kwonly }

  pub positional_walks : Around → tree.Args → List (Doing (Value Known))
  positional_walks a tree.no_args = []
  positional_walks a (tree.more_args x tree.no_expr rest) = positional_walks a rest
  positional_walks a (tree.more_args x (tree.some_expr e) rest) = (walks a e).value ∷ positional_walks a rest

  -- by their names
  pub keyword_only_walks : Around → tree.Args → KeywordWalks
  keyword_only_walks a tree.no_args = []
  keyword_only_walks a (tree.more_args x tree.no_expr rest) = keyword_only_walks a rest
  keyword_only_walks a (tree.more_args (tree.arg at name annotation) (tree.some_expr e) rest) = Single (name, (walks a e).value) ∷ keyword_only_walks a rest

  -- a value is assigned; what is no target drops it, which no program has
  pub target_walks : Around → tree.Expr → TargetWalk
  target_walks a (tree.Name at id) = plain (λ v w. for_none (Accesses Unsaid Store id 0 (v ∷ [])) false w)
  target_walks a (tree.Attribute at e attr) = plain (λ v w. then_get ((walks a e).value w) (λ x w1. for_none (Operates (named_operation op.StoreAttr attr) (v ∷ x ∷ [])) false w1))
  target_walks a (tree.Subscript at e index) =
      plain (λ v w. then_get ((walks a e).value w) (λ x w1. then_get ((walks a index).value w1) (λ y w2. for_none (Operates (operation op.StoreSubscript Bare) (v ∷ x ∷ y ∷ [])) false w2)))
  target_walks a (tree.List at elts) = plain (unpack_to elts (all_targets a elts))
  target_walks a (tree.Tuple at elts) = plain (unpack_to elts (all_targets a elts))
  target_walks a (tree.Starred at e) = record { alone = drop_it; element = (target_walks a e).alone }
  target_walks a other = plain drop_it

  pub all_targets : Around → tree.Exprs → List TargetWalk
  all_targets a tree.no_exprs = []
  all_targets a (tree.more_exprs e es) = target_walks a e ∷ all_targets a es

abbrev pub walk_expr : Around → tree.Expr → Doing (Value Known)
walk_expr a e = (walks a e).value

abbrev pub walk_test : Around → tree.Expr → Doing Bool
walk_test a e = (walks a e).test

abbrev pub walk_target : Around → tree.Expr → Value Known → Doing (Unit {0})
walk_target a e = (target_walks a e).alone
