-- Which parameters have a default.
use Rattle.std.specs.Prelude.{Bool, List, [], ◌∷◌, Option, None, Some, filter}
use mathlib.Core.Bool.{beq}
use Rattle.std.specs.declared.alloc.Global.{Global}
use Rattle.std.specs.declared.boxed.Box.{Box}
use Rattle.std.specs.Option.{is_some}
use Rattle.py_tree.specs.declared.expressions.Expr.{Expr}
use Rattle.py_tree.specs.declared.expressions.ArgWithDefaultOf.{ArgWithDefaultOf}

abbrev pub has_default : ArgWithDefaultOf Expr → Bool
has_default x = is_some x.default

-- the default in front, where there is one
abbrev pub with_default : Option (Box Expr Global) → List Expr → List Expr
with_default None others = others
with_default (Some value) others = value.value ∷ others

-- the defaults of the parameters that have one, in order
abbrev pub defaults_of : List (ArgWithDefaultOf Expr) → List Expr
defaults_of [] = []
defaults_of (x ∷ xs) = with_default x.default (defaults_of xs)

-- the parameters that have a default, or those that lack one
abbrev pub params_by_default : (given : Bool) → List (ArgWithDefaultOf Expr) → List (ArgWithDefaultOf Expr)
params_by_default given xs = filter (λ x. beq (has_default x) given) xs
