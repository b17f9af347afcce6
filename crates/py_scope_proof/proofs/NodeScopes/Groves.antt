-- The numbers of the enclosing scopes: of the scope at a place of a scan, and of those of a scope forest.
use Rattle.std.proofs.Common.{◌≡◌, refl, sym, ap, ◌∙◌, ℕ, suc, ◌+◌, List, [], ◌∷◌, ◌++◌, map, slice_get, option_map, Option, Some, None}
use Rattle.std.proofs.lemmas.List.{map-append}
use Rattle.std.proofs.lemmas.Option.{slice_get-map}
use Rattle.std.proofs.lemmas.Simd.{map-map}
use Rattle.py_scope.specs.declared.rows.Row.{Row}
use Rattle.py_scope.specs.Outward.{parent_of, parents}
use Rattle.py_scope_proof.specs.Owners.{Grove, Bare, Grown, Placed, placed_owners, size}
use Rattle.py_scope_proof.specs.StmtOwners.{in_whole}
use Rattle.py_scope_proof.specs.Entered.{Told, told_node, told_row}

abbrev told_parent : Option (Told × ℕ) → ℕ
told_parent None = 0
told_parent (Some t) = t.1

-- the scope around the one at that place, by what is told of it
pub parent_told : (rows : List Row) (ts : List (Told × ℕ)) (t : Told × ℕ) (k : ℕ) → map told_row rows ≡ ts → slice_get ts k ≡ Some t → parents rows k ≡ t.1
parent_told rows ts t k e h = of_parent (slice_get rows k) ∙ ap told_parent (sym (slice_get-map told_row rows k) ∙ ap (λ xs. slice_get xs k) e ∙ h)
  where
    of_parent : (o : Option Row) → parent_of o ≡ told_parent (option_map told_row o)
    of_parent None = refl
    of_parent (Some r) = refl

-- the scopes around those of a scope forest that stands in a scope, numbered from n on
abbrev pub arounds : (around n : ℕ) → Grove → List ℕ
arounds c n Bare = []
arounds c n (Grown o within behind) = c ∷ (arounds n (suc n) within ++ arounds c (suc n + size within) behind)

abbrev around_of : Placed → ℕ
around_of p = p.around

placed_arounds : (c n : ℕ) (g : Grove) → map around_of (placed_owners c n g) ≡ arounds c n g
placed_arounds c n Bare = refl
placed_arounds c n (Grown o within behind) =
    let k = suc n + size within in
    ap (λ ks. c ∷ ks) (map-append around_of (placed_owners n (suc n) within) (placed_owners c k behind) ∙ (λ i. placed_arounds n (suc n) within i ++ placed_arounds c k behind i))

-- the scope around this one
abbrev pub parent_in : Row → ℕ
parent_in r = r.parent

-- so are the scopes around those of a scan that has entered the scope forest
pub parents_grown : (rows : List Row) (g : Grove) → map told_row rows ≡ map told_node (in_whole g) → map parent_in rows ≡ 0 ∷ arounds 0 1 g
parents_grown rows g e =
    let second = λ (t : Told × ℕ). t.1 in
    sym (map-map {C = ℕ} second told_row rows) ∙ ap (map second) e ∙ map-map {C = ℕ} second told_node (in_whole g) ∙ ap (λ ks. 0 ∷ ks) (placed_arounds 0 1 g)
