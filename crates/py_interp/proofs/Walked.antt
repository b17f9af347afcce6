-- The laws of the walk.
use Rattle.std.proofs.Common.{◌≡◌, None, subst, sym}
use Rattle.py_emission_parts.specs.Context.{Context}
use Rattle.py_control.specs.Form.{run_value, run_test, run_target}
use Rattle.py_meaning.specs.Table.{expr_form, test_form, target_form}
use Rattle.py_answers.specs.Told.{short_value}
use Rattle.py_interp.specs.Laws.{TargetsWalk, TestsWalk, ValuesWalk, around_of}
use Rattle.py_interp.specs.Shortened.{short_got, short_world}
use Rattle.py_interp.specs.Walks.{walk_expr, walk_test, walk_target}
use Rattle.py_control.specs.Agree.{plainly}
use Rattle.py_interp.specs.TreeLaws.{MeaningsWalk, TreesWalk}
use Rattle.py_interp.proofs.Exprs.{same_expr, same_target}
use Rattle.py_interp.proofs.Trees as trees

-- a context that no class mangles in
classless : (c : Context) → c.class ≡ None → record c { class = None } ≡ c
classless c h = λ j. record c { class = sym h j }

pub values_walk : ValuesWalk
values_walk i c n e w h =
    let P : Context → Type 0 = λ d. walk_expr (around_of d) e (short_world w) ≡ short_got short_value (run_value i (expr_form d n e) w) in
    subst P (classless c h) ((same_expr i c n e).value w)

pub tests_walk : TestsWalk
tests_walk i c n e w h =
    let P : Context → Type 0 = λ d. walk_test (around_of d) e (short_world w) ≡ short_got (λ t. t) (run_test i (test_form d n e) w) in
    subst P (classless c h) ((same_expr i c n e).test w)

pub targets_walk : TargetsWalk
targets_walk i c n e v w h =
    let P : Context → Type 0 = λ d. walk_target (around_of d) e (short_value v) (short_world w) ≡ short_got (λ d. d) (run_target i (target_form d n e) v w) in
    subst P (classless c h) ((same_target i c n e).alone v w)

pub trees_walk : TreesWalk
trees_walk = trees.trees_walk

pub meanings_walk : MeaningsWalk
meanings_walk scopes t m level answers = trees.trees_walk plainly scopes t m level answers
