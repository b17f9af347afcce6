use Rattle.std.proofs.Common.{◌≡◌, ◌≢◌, ℕ, suc, false, List, [], ◌∷◌, length, refl, ap, ◌∙◌, arith, rules}
use Rattle.std.specs.Prelude.{nat_eq, not}
use Rattle.py_tree.specs.declared.statements.TypeParam.{TypeParam}
use Rattle.py_tree.specs.View.{type_params}
use Rattle.py_name_uses.specs.Parts.{is_generic}
use Rattle.py_name_uses.proofs.type_params.is_generic.Goals as goal

some_is : (xs : List TypeParam) → not (nat_eq (length xs) 0) ≡ is_generic (type_params xs)
some_is [] = refl
some_is (x ∷ xs) = ap not (go (length xs))
  where
    go : (n : ℕ) → nat_eq (suc n) 0 ≡ false
    go n = let h : suc n ≢ 0 = (λ e. absurd (omega (arith, e))) in search (rules, h)

pub returns : goal.returns
returns c = ap not c.is_empty.ensures ∙ some_is c.args.params.now
