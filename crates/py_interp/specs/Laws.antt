-- The walk of an expression does what the expression means, shortened, however a run sees children, names and cells.
use Rattle.std.specs.Prelude.{◌≡◌, ℕ, None}
use Rattle.py_tree.specs.Tree as tree
use Rattle.py_bytecode.specs.Values.{Value, World}
use Rattle.py_control.specs.Form.{Interp, Scope, run_value, run_test, run_target}
use Rattle.py_emission_parts.specs.Context.{Context}
use Rattle.py_meaning.specs.Table.{expr_form, test_form, target_form}
use Rattle.py_answers.specs.Told.{short_value}
use Rattle.py_interp.specs.declared.around.Around.{Around}
use Rattle.py_interp.specs.Shortened.{short_got, short_world}
use Rattle.py_interp.specs.Walks.{walk_expr, walk_test, walk_target}

abbrev pub around_of : Context → Around
around_of c = record { level = c.level; postponed = c.postponed }

-- where no class mangles names
abbrev pub ValuesWalk : Type 0
ValuesWalk =
    (i : Interp Scope) (c : Context) (n : ℕ) (e : tree.Expr) (w : World Scope) → c.class ≡ None → walk_expr (around_of c) e (short_world w) ≡ short_got short_value (run_value i (expr_form c n e) w)

abbrev pub TestsWalk : Type 0
TestsWalk =
    (i : Interp Scope) (c : Context) (n : ℕ) (e : tree.Expr) (w : World Scope) → c.class ≡ None → walk_test (around_of c) e (short_world w) ≡ short_got (λ t. t) (run_test i (test_form c n e) w)

abbrev pub TargetsWalk : Type 0
TargetsWalk =
    (i : Interp Scope) (c : Context) (n : ℕ) (e : tree.Expr) (v : Value Scope) (w : World Scope) →
    c.class ≡ None → walk_target (around_of c) e (short_value v) (short_world w) ≡ short_got (λ d. d) (run_target i (target_form c n e) v w)
