-- Worked runs of trees: what they list and how they end is written by hand.
use Rattle.std.proofs.Common.{◌≡◌, refl, ℕ, List, [], ◌∷◌, None, true, false, pos, codes}
use Rattle.py_base.specs.Literal as literal
use Rattle.py_base.specs.declared.location.SourceLocation.{SourceLocation}
use Rattle.py_base.specs.declared.operators.Operator.TheVariants.{Add}
use Rattle.py_tree.specs.Tree as tree
use Rattle.py_tree.specs.declared.modules.Mode.TheVariants.{Exec}
use Rattle.py_bytecode.specs.declared.instruction.Instruction.TheVariants as op
use Rattle.py_bytecode.specs.Objects as const
use Rattle.py_bytecode.specs.Values.{Gives, Truth, Raised, operation, Number, Bare, Constant, Given, Child, It, Event, Operates, Accesses, AsksTruth, Unsaid, Load, Store, Returned, RaisedOut, Stopped, ran}
use Rattle.py_answers.specs.Told.{Known, AChild}
use Rattle.py_interp.specs.Statements.{tree_run}

abbrev interp_sample_at : SourceLocation
interp_sample_at = record { row = 1; column = 1 }

abbrev sample_name : List ℕ → tree.Expr
sample_name id = tree.Name interp_sample_at id

abbrev sample_one : tree.Stmt → tree.Mod
sample_one s = tree.Module (tree.more_stmts s tree.no_stmts)

abbrev body : tree.Expr → tree.Stmts
body e = tree.more_stmts (tree.StmtExpr interp_sample_at e) tree.no_stmts

abbrev sample_loads : List ℕ → Event Known
sample_loads n = Accesses Unsaid Load n 0 []

-- `f(a + 1)`
abbrev sample_sum_called : tree.Mod
sample_sum_called = sample_one (tree.StmtExpr interp_sample_at (tree.Call interp_sample_at (sample_name (codes "f")) (tree.more_exprs (tree.BinOp interp_sample_at (sample_name (codes "a")) Add (tree.Constant interp_sample_at (literal.Int (pos 1)))) tree.no_exprs) tree.no_keywords))

sample_given_all : tree_run sample_sum_called Exec 0 (Gives 1 ∷ Gives 1 ∷ Gives 1 ∷ Gives 1 ∷ []) ≡ ran (sample_loads (codes "f") ∷ sample_loads (codes "a") ∷ Operates (operation op.BinaryOperation (Number 0)) (Given 1 0 ∷ Constant (const.integer (pos 1)) ∷ []) ∷ Operates (operation op.CallFunctionPositional (Number 1)) (Given 0 0 ∷ Given 2 0 ∷ []) ∷ []) (Returned (It (Constant const.none)))
sample_given_all = refl

sample_load_raises : tree_run sample_sum_called Exec 0 (Gives 1 ∷ Raised ∷ []) ≡ ran (sample_loads (codes "f") ∷ sample_loads (codes "a") ∷ []) (RaisedOut (Given 1 0))
sample_load_raises = refl

sample_no_answer : tree_run sample_sum_called Exec 0 [] ≡ ran (sample_loads (codes "f") ∷ []) Stopped
sample_no_answer = refl

-- `[*a, b]`: the plain element is a tuple of its own
starred_list : tree_run (sample_one (tree.StmtExpr interp_sample_at (tree.List interp_sample_at (tree.more_exprs (tree.Starred interp_sample_at (sample_name (codes "a"))) (tree.more_exprs (sample_name (codes "b")) tree.no_exprs))))) Exec 0 (Gives 1 ∷ Gives 1 ∷ Gives 1 ∷ Gives 1 ∷ []) ≡ ran (sample_loads (codes "a") ∷ sample_loads (codes "b") ∷ Operates (operation op.BuildTuple (Number 1)) (Given 1 0 ∷ []) ∷ Operates (operation op.BuildListUnpack (Number 2)) (Given 0 0 ∷ Given 2 0 ∷ []) ∷ []) (Returned (It (Constant const.none)))
starred_list = refl

-- `{a: b, **c}`
unpacked_map : tree_run (sample_one (tree.StmtExpr interp_sample_at (tree.Dict interp_sample_at (tree.more_opts (tree.some_expr (sample_name (codes "a"))) (tree.more_opts tree.no_expr tree.no_opts)) (tree.more_exprs (sample_name (codes "b")) (tree.more_exprs (sample_name (codes "c")) tree.no_exprs))))) Exec 0 (Gives 1 ∷ Gives 1 ∷ Gives 1 ∷ Gives 1 ∷ Gives 1 ∷ []) ≡ ran (sample_loads (codes "a") ∷ sample_loads (codes "b") ∷ Operates (operation op.BuildMap (Number 1)) (Given 0 0 ∷ Given 1 0 ∷ []) ∷ sample_loads (codes "c") ∷ Operates (operation op.DictUpdate Bare) (Given 2 0 ∷ Given 3 0 ∷ []) ∷ []) (Returned (It (Constant const.none)))
unpacked_map = refl

-- `while a: b`, whose test holds once
twice_asked : tree_run (sample_one (tree.While interp_sample_at (sample_name (codes "a")) (body (sample_name (codes "b"))) tree.no_stmts)) Exec 0 (Gives 1 ∷ Truth true ∷ Gives 1 ∷ Gives 1 ∷ Truth false ∷ []) ≡ ran (sample_loads (codes "a") ∷ AsksTruth (Given 0 0) ∷ sample_loads (codes "b") ∷ sample_loads (codes "a") ∷ AsksTruth (Given 3 0) ∷ []) (Returned (It (Constant const.none)))
twice_asked = refl

-- `try: a` with `except: b`, where the load of a raises
handled : tree_run (sample_one (tree.Try interp_sample_at (body (sample_name (codes "a"))) (tree.more_handlers tree.no_expr None (body (sample_name (codes "b"))) tree.no_handlers) tree.no_stmts tree.no_stmts)) Exec 0 (Raised ∷ Gives 1 ∷ []) ≡ ran (sample_loads (codes "a") ∷ sample_loads (codes "b") ∷ []) (Returned (It (Constant const.none)))
handled = refl

-- `def g(x=a): pass`
defaulted : tree_run (sample_one (tree.FunctionDef interp_sample_at (codes "g") (tree.arguments tree.no_args (tree.more_args (tree.arg interp_sample_at (codes "x") tree.no_expr) (tree.some_expr (sample_name (codes "a"))) tree.no_args) tree.no_arg tree.no_args tree.no_arg) (tree.more_stmts (tree.Pass interp_sample_at) tree.no_stmts) tree.no_exprs tree.no_expr tree.no_type_params)) Exec 0 (Gives 1 ∷ Gives 1 ∷ Gives 1 ∷ Gives 0 ∷ []) ≡ ran (sample_loads (codes "a") ∷ Operates (operation op.BuildTuple (Number 1)) (Given 0 0 ∷ []) ∷ Operates (operation op.MakeFunction (Number 8)) (Given 1 0 ∷ Child AChild ∷ Constant (const.str (codes "g")) ∷ []) ∷ Accesses Unsaid Store (codes "g") 0 (Given 2 0 ∷ []) ∷ []) (Returned (It (Constant const.none)))
defaulted = refl
