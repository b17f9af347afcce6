-- A worked scope that loads few cells: its code makes a function, whose scope has one free variable.
use Rattle.std.proofs.Common.{◌≡◌, refl, zero, suc, List, [], ◌∷◌, None, false, codes, arith}
use Rattle.py_control.specs.Form.{MkScope, SReturn, SSkip, Scope, VMake, VNone}
use Rattle.py_scope.specs.declared.flat.ScopeEntry.{ScopeEntry}
use Rattle.py_scope.specs.declared.kinds.SymbolScope.TheVariants as scope
use Rattle.py_scope.specs.declared.table_type.SymbolTableType.TheVariants as kind
use Rattle.py_emission_parts.specs.Context.{Context, head_of}
use Rattle.py_emission_proof.specs.Loads.{loads}
use Rattle.py_node_laws.specs.Adding.{LoadsFew}

-- scope 1 has the name from scope 0
abbrev load_sample_scopes : List ScopeEntry
load_sample_scopes =
    record { typ = kind.Function; symbols = record { name = codes "x"; scope = scope.Cell; flags = record { 0 = 0 } } ∷ []; next = 2 }
    ∷ record { typ = kind.Function; symbols = record { name = codes "x"; scope = scope.Free; flags = record { 0 = 0 } } ∷ []; next = 2 } ∷ []

abbrev load_sample_nested : Context
load_sample_nested = record { level = 0; source = []; class = None; path = []; postponed = false; typ = kind.Function; scopes = load_sample_scopes; here = 1; cells = []; frees = codes "x" ∷ [] }

abbrev load_sample_inner : Scope
load_sample_inner = MkScope (head_of load_sample_nested) SSkip

abbrev maker : Scope
maker = MkScope (head_of (record load_sample_nested { here = 0; cells = codes "x" ∷ []; frees = [] })) (SReturn (VMake 0 VNone load_sample_inner (codes "f") VNone))

load_sample_one : loads load_sample_scopes (load_sample_inner ∷ []) ≡ 1
load_sample_one = refl

inner_few : LoadsFew load_sample_scopes load_sample_inner
inner_few zero = tt
inner_few (suc n) = ((λ apart. omega arith), tt)

pub maker_few : LoadsFew load_sample_scopes maker
maker_few zero = tt
maker_few (suc n) = ((λ apart. omega (arith, load_sample_one)), (inner_few n, tt))
