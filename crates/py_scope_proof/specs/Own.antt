-- Each scope that a tree means stands at the place of the node whose scope it is.
use Rattle.std.specs.Prelude.{◌≡◌, ℕ, zero, suc, ◌+◌, List, Option, Some, None, slice_get}
use Rattle.py_tree.specs.Tree as tree
use Rattle.py_tree.specs.declared.modules.Mode.{Mode}
use Rattle.py_bytecode.specs.declared.instruction.Instruction.TheVariants as op
use Rattle.py_scope.specs.declared.flat.ScopeEntry.{ScopeEntry}
use Rattle.py_control.specs.Agree.{AllOf, form_of, kids}
use Rattle.py_control.specs.Agree as scope
use Rattle.py_control.specs.Form.{VConst, VForm, VMore, VNone, VSwap, SReturn, Scope, MkScope}
use Rattle.py_bytecode.specs.Objects as const
use Rattle.py_bytecode.specs.Values.{operation, Bare}
use Rattle.py_emission_parts.specs.Within.{class_path, class_within, comprehension_inside, function_inside, passed_defaults, handed_parts, hidden_inside, lambda_inside}
use Rattle.py_emission_parts.specs.Context.{Context, head_of}
use Rattle.py_emission.specs.Texts.{after_doc, doc_of}
use Rattle.py_meaning.specs.Meaning.{body}
use Rattle.py_meaning.specs.StmtParts.{class_value, function_value}
use Rattle.py_emission.specs.Predicates.{any_annotates}
use Rattle.py_meaning.specs.Table.{after, after_clauses, clause_forms, default_forms, expr_form}
use Rattle.py_meaning.specs.TableParams.{after_hidden, own_number, params_form}
use Rattle.py_meaning.specs.TableScopes.{class_form, default_flags, gather_form, generate_form}
use Rattle.py_meaning.specs.TableStmts.{function_body, rest_form}
use Rattle.py_scope_proof.specs.Owners.{Owner, Whole, Value, Own, Hidden, Placed}
use Rattle.py_scope_proof.specs.StmtOwners.{owners_of}

-- the number that a scope is told to have
abbrev pub number_of : Scope → ℕ
number_of s = (scope.head_of s).number

-- the scope of a lambda or a comprehension, by its context and by its number; no other expression has one
abbrev pub value_scope : Context → (number : ℕ) → tree.Expr → Option Scope
value_scope c n (tree.Lambda at params e) = let i = lambda_inside c n in Some (MkScope (head_of i) (SReturn (expr_form i (suc n) e)))
value_scope c n (tree.ListComp at elt gs) =
    let i = comprehension_inside c n in
    Some (MkScope (head_of i) (gather_form op.BuildList op.ListAppend (clause_forms i (suc n) gs) (VMore (expr_form i (after_clauses c (suc n) gs) elt) VNone)))
value_scope c n (tree.SetComp at elt gs) =
    let i = comprehension_inside c n in
    Some (MkScope (head_of i) (gather_form op.BuildSet op.SetAdd (clause_forms i (suc n) gs) (VMore (expr_form i (after_clauses c (suc n) gs) elt) VNone)))
value_scope c n (tree.DictComp at key value gs) =
    let i = comprehension_inside c n in let m = after_clauses c (suc n) gs in
    Some (MkScope (head_of i) (gather_form op.BuildMap op.MapAdd (clause_forms i (suc n) gs) (VMore (expr_form i m key) (VMore (expr_form i (after c m key) value) VNone))))
value_scope c n (tree.GeneratorExp at elt gs) =
    let i = comprehension_inside c n in
    Some (MkScope (head_of i) (generate_form (clause_forms i (suc n) gs) (expr_form i (after_clauses c (suc n) gs) elt)))
value_scope c n other = None

-- the scope of a function, in which its statements are numbered from after it
abbrev pub function_scope : Context → (number : ℕ) → (name : List ℕ) → tree.Stmts → Scope
function_scope c n name body = let i = function_inside name c n in MkScope (head_of i) (function_body i (suc n) body)

-- the scope of a class with this qualified name
abbrev pub class_scope : Context → (path : List ℕ) → (number : ℕ) → (name : List ℕ) → tree.Stmts → Scope
class_scope c path n name body =
    let i = class_within path name c n in MkScope (head_of i) (class_form path (doc_of c.level body) (any_annotates (after_doc body)) (rest_form i (suc n) body))

-- the scope of a function or a class; no other statement has one
abbrev pub own_scope : Context → (path : List ℕ) → (number : ℕ) → tree.Stmt → Option Scope
own_scope c path n (tree.FunctionDef at name params body decorators returns generic) = Some (function_scope c n name body)
own_scope c path n (tree.ClassDef at name bases ks body decorators generic) = Some (class_scope c path n name body)
own_scope c path n other = None

-- a type-parameter scope returns what is made in it
abbrev pub hidden_scope_of : Context → (number : ℕ) → VForm → Scope
hidden_scope_of c n f = MkScope (head_of (hidden_inside c n)) (SReturn f)

-- what a type-parameter scope returns: a function that gets its defaults from outside
abbrev pub hidden_function : Context → (number : ℕ) → (name : List ℕ) → tree.Arguments → tree.Stmts → (returns : tree.OptExpr) → tree.TypeParams → VForm
hidden_function c n name params body returns ts =
    let i = hidden_inside c n in let k = own_number c n ts in let d = default_forms c (after_hidden c n ts params body returns) params in
    function_value i k (0x10 + default_flags d) (handed_parts (passed_defaults d.positional d.keyword) (VMore (params_form i (suc n) ts) VNone)) name params body returns (function_body (function_inside name i k) (suc k) body)

-- or a class
abbrev pub hidden_class : Context → (number : ℕ) → (name : List ℕ) → (bases : tree.Exprs) → tree.Keywords → tree.Stmts → tree.TypeParams → VForm
hidden_class c n name bases keywords body ts =
    let i = hidden_inside c n in let k = own_number c n ts in let path = class_path c name in
    class_value i path k 0x10 (VMore (params_form i (suc n) ts) VNone) name bases keywords body (rest_form (class_within path name i k) (suc k) body)

-- or an alias
abbrev pub hidden_alias : Context → (number : ℕ) → (name : List ℕ) → tree.TypeParams → (value : tree.Expr) → VForm
hidden_alias c n name ts e =
    let i = hidden_inside c n in VSwap (operation op.TypeAlias Bare) (params_form i (suc n) ts) (expr_form i (own_number c n ts) e) (VMore (VConst (const.str name)) VNone)

-- the scope around the type parameters of a function, a class or an alias, where there are any
abbrev pub hidden_scope : Context → (number : ℕ) → tree.Stmt → Option Scope
hidden_scope c n (tree.FunctionDef at name params body decorators returns (tree.more_type_params t ts)) =
    Some (hidden_scope_of c n (hidden_function c n name params body returns (tree.more_type_params t ts)))
hidden_scope c n (tree.ClassDef at name bases keywords body decorators (tree.more_type_params t ts)) =
    Some (hidden_scope_of c n (hidden_class c n name bases keywords body (tree.more_type_params t ts)))
hidden_scope c n (tree.TypeAlias at (tree.Name p id) (tree.more_type_params t ts) value) = Some (hidden_scope_of c n (hidden_alias c n id (tree.more_type_params t ts) value))
hidden_scope c n other = None

-- the scope is that of the node, which stands in this context; the outermost scope stands in none
abbrev pub IsScopeOf : Context → Owner → Scope → Type 0
IsScopeOf c Whole s = ⊥
IsScopeOf c (Value e) s = value_scope c (number_of s) e ≡ Some s
IsScopeOf c (Own st) s = (path : List ℕ) × (own_scope c path (number_of s) st ≡ Some s)
IsScopeOf c (Hidden st) s = hidden_scope c (number_of s) st ≡ Some s

-- at the place that the scope's number says stands the node whose scope it is, in the scope with this number and in a context that these scopes tell of names
pub record IsOwn (scopes : List ScopeEntry) (owners : List Placed) (here : ℕ) (s : Scope) : Type 0 where
  pub owner : Owner
  pub stands : slice_get owners (number_of s) ≡ Some (record { owner = owner; around = here })
  pub around : Context
  pub told : around.scopes ≡ scopes
  pub is : IsScopeOf around owner s

-- a scope that stands in the scope with this number, and those within it, down to n levels, are each their node's own
abbrev pub OwnUpTo : List ScopeEntry → List Placed → (here n : ℕ) → Scope → Type 0
OwnUpTo scopes owners here zero s = Unit {0}
OwnUpTo scopes owners here (suc n) s = IsOwn scopes owners here s × AllOf (OwnUpTo scopes owners (number_of s) n) (kids (form_of s))

-- so is each scope within a tree, at every depth
abbrev pub EachIsItsOwn : Type 0
EachIsItsOwn = (scopes : List ScopeEntry) (t : tree.Mod) (m : Mode) (level n : ℕ) → AllOf (OwnUpTo scopes (owners_of t m) 0 n) (kids (form_of (body scopes t m level)))
