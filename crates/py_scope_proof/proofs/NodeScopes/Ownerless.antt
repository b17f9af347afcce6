-- No node of a text has a scope.
use Rattle.std.proofs.Common.{◌≡◌, refl, ap, ◌∙◌, ℕ, List, Bool, Option, Some, None}
use Rattle.py_tree.specs.Tree as tree
use Rattle.py_emission.specs.Texts.{joined_text, stmt_text, text_of, texts_of}
use Rattle.py_scope_proof.specs.Owners.{Bare, ◌&◌, owners_in, owners_in_all}
use Rattle.py_scope_proof.specs.StmtOwners.{owners_in_stmt}

-- where two texts are joined, both are there
ownerless_some_rest : (x y : Option (List ℕ)) (t : List ℕ) → joined_text x y ≡ Some t → (u : List ℕ) × (v : List ℕ) × (x ≡ Some u) × (y ≡ Some v)
ownerless_some_rest None y t e = absurd cc
ownerless_some_rest (Some u) None t e = absurd cc
ownerless_some_rest (Some u) (Some v) t e = (u, v, refl, refl)

mutual
  text_ownerless : (p : Bool) (e : tree.Expr) (t : List ℕ) → text_of e ≡ Some t → owners_in p e ≡ Bare
  text_ownerless p (tree.Constant at value) t e = refl
  text_ownerless p (tree.JoinedStr at parts) t e = texts_ownerless p parts t e
  text_ownerless p other t e = absurd cc

  texts_ownerless : (p : Bool) (es : tree.Exprs) (t : List ℕ) → texts_of es ≡ Some t → owners_in_all p es ≡ Bare
  texts_ownerless p tree.no_exprs t e = refl
  texts_ownerless p (tree.more_exprs x xs) t e =
      let h = ownerless_some_rest (text_of x) (texts_of xs) t e in
      ap (λ z. z & owners_in_all p xs) (text_ownerless p x h.0 h.2) ∙ texts_ownerless p xs h.1 h.3

pub doc_ownerless : (p : Bool) (s : tree.Stmt) (t : List ℕ) → stmt_text s ≡ Some t → owners_in_stmt p s ≡ Bare
doc_ownerless p (tree.StmtExpr at value) t e = text_ownerless p value t e
doc_ownerless p other t e = absurd cc
