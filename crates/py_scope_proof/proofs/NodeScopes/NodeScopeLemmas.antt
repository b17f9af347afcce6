-- Where the scan of a tree without faults has entered the scope of a node.
use Rattle.std.proofs.Common.{◌≡◌, refl, sym, ap, ◌∙◌, subst, ℕ, zero, suc, ◌<◌, List, [], length, map, slice_get, option_map, Option, Some, None, arith}
use Rattle.std.proofs.lemmas.List.{length-map}
use Rattle.std.proofs.lemmas.Option.{slice_get-map, slice_get_within}
use Rattle.py_tree.specs.Tree as tree
use Rattle.py_tree.specs.declared.modules.Mode.{Mode}
use Rattle.py_scope.specs.declared.rows.Row.{Row}
use Rattle.py_scope.specs.Outward.{parents}
use Rattle.py_name_uses.specs.Steps.{State}
use Rattle.py_control.specs.Form.{Scope}
use Rattle.py_emission_parts.specs.Context.{Context}
use Rattle.py_meaning.specs.Faults.{faults}
use Rattle.py_meaning.specs.Scanned.{scopes_of}
use Rattle.py_scope_proof.specs.Entered.{ScansTo, told_node, told_row}
use Rattle.py_scope_proof.specs.Own.{IsOwn, IsScopeOf, number_of}
use Rattle.py_scope_proof.specs.Owners.{Owner, Whole, Placed}
use Rattle.py_scope_proof.specs.StmtOwners.{owners_of}
use Rattle.py_scope_proof.proofs.NodeScopes.EnteringPrograms.{scan_enters_owners}
use Rattle.py_scope_proof.proofs.NodeScopes.Facts.{some_owner}
use Rattle.py_scope_proof.proofs.NodeScopes.Groves.{parent_told}

-- at place 0 stands the whole tree
abbrev owner_there : Option Placed → Owner
owner_there None = Whole
owner_there (Some p) = p.owner

whole_first : (t : tree.Mod) (m : Mode) → owner_there (slice_get (owners_of t m) 0) ≡ Whole
whole_first (tree.Module stmts) m = refl
whole_first (tree.Interactive stmts) m = refl
whole_first (tree.Expression value) m = refl
whole_first other m = refl

-- and a node that has a scope after it
behind_whole : (t : tree.Mod) (m : Mode) (c : Context) (s : Scope) (p : Placed) (k : ℕ) → slice_get (owners_of t m) k ≡ Some p → IsScopeOf c p.owner s → 0 < k
behind_whole t m c s p zero e i = absurd (subst (λ o. IsScopeOf c o s) (ap owner_there (sym e) ∙ whole_first t m) i)
behind_whole t m c s p (suc k) e i = omega arith

-- the scan has entered the scope of the whole tree
pub whole_there : (t : tree.Mod) (m : Mode) (level : ℕ) (s : State) → faults t m level ≡ [] → ScansTo t s → 0 < length s.scopes.rows
whole_there t m level s h e =
    let a = ap length (scan_enters_owners t m level s h e) in
    let b = length-map s.scopes.rows told_row in
    let c = length-map (owners_of t m) told_node in
    let d = some_owner t m in
    omega (arith, a, b, c, d)

-- where the scan has entered the scope of a node: after the one around it
pub record Standing (rows : List Row) (here number : ℕ) : Type 0 where
  pub around : parents rows number ≡ here
  pub above : 0 < number
  pub there : number < length rows

pub own_standing : (t : tree.Mod) (m : Mode) (level : ℕ) (s : State) → faults t m level ≡ [] → ScansTo t s → (here : ℕ) (x : Scope)
    → IsOwn (scopes_of t) (owners_of t m) here x → Standing s.scopes.rows here (number_of x)
own_standing t m level s h e here x own = record {
  around = parent_told s.scopes.rows (map told_node (owners_of t m)) (told_node p) k entered (slice_get-map told_node (owners_of t m) k ∙ ap (option_map told_node) own.stands);
  above = behind_whole t m own.around x p k own.stands own.is;
  there = subst (λ n. k < n) (sym (length-map (owners_of t m) told_node) ∙ ap length (sym entered) ∙ length-map s.scopes.rows told_row) (slice_get_within (owners_of t m) k p own.stands);
}
  where
    k : ℕ
    k = number_of x

    p : Placed
    p = record { owner = own.owner; around = here }

    entered : map told_row s.scopes.rows ≡ map told_node (owners_of t m)
    entered = scan_enters_owners t m level s h e
