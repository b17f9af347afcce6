-- What a scan meets: scopes that it enters and leaves, and uses of names. The first refusal ends it.
use Rattle.std.specs.Prelude.{Bool, true, false, ◌&&◌, Option, Some, None, codes, if◌then◌else◌}
use Rattle.py_base.specs.declared.location.SourceLocation.{SourceLocation}
use Rattle.py_scope.specs.declared.error.ScanFault.{ScanFault}
use Rattle.py_scope.specs.declared.error.ScanFault.TheVariants.{Text}
use Rattle.py_scope.specs.declared.refusal.Refusal.{Refusal}
use Rattle.py_scope.specs.declared.refusal.Refusal.TheVariants as refusal
use Rattle.py_scope.specs.declared.roles.Role.{Role}
use Rattle.py_scope.specs.declared.roles.Role.TheVariants as role
use Rattle.py_scope.specs.declared.table_type.SymbolTableType.{SymbolTableType}
use Rattle.py_scope.specs.declared.table_type.SymbolTableType.TheVariants as scope
use Rattle.py_base.specs.Mangle.{mangled_in}
use Rattle.py_scope.specs.Names.{Name, same_name, class_cell}
use Rattle.py_scope.specs.Refusals.{text_of}
use Rattle.py_scope.specs.Scanned.{Scanned, initial_scan, entered_scan, gone_out, holder_here, is_function, kind_here, refused_here, with_use}
use Rattle.py_name_uses.specs.declared.usage.Usage.{Usage}
use Rattle.py_name_uses.specs.declared.usage.Usage.TheVariants.{Load, Iterable, Store, Delete, Target, Walrus}

-- the scopes that were met, the enclosing class, and whether annotations are postponed
pub record State : Type 0 where
  pub scopes : Scanned
  pub class : Option Name
  pub postponed : Bool

pub data Outcome : Type 0 where
  Done : State → Outcome
  Refused : ScanFault → Option SourceLocation → Outcome

abbrev pub Step : Type 0
Step = State → Outcome

abbrev pub go_on : Outcome → Step → Outcome
go_on (Done s) next = next s
go_on (Refused fault at) next = Refused fault at

-- one step and then another, unless the one is refused
infixr 10 ◌▸◌
abbrev pub ◌▸◌ : Step → Step → Step
(a ▸ b) s = go_on (a s) b

abbrev pub nothing : Step
nothing s = Done s

abbrev pub refuse : Refusal → SourceLocation → Step
refuse r at s = Refused (Text (text_of r)) (Some at)

-- a step that is taken where this is so
abbrev pub when : Bool → Step → Step
when b step s = if b then step s else Done s

abbrev pub refuse_if : Bool → Refusal → SourceLocation → Step
refuse_if b r at = when b (refuse r at)

abbrev pub unless_refused : Option Refusal → SourceLocation → Step
unless_refused None at s = Done s
unless_refused (Some r) at s = refuse r at s

-- a name as it is written outside the innermost class
abbrev pub written_name : State → Name → Name
written_name s n = mangled_in s.class n

abbrev pub with_scopes : Scanned → State → State
with_scopes scopes s = record { scopes = scopes; class = s.class; postponed = s.postponed }

-- a use of a name in the open scope
abbrev pub noted_use : Role → Name → SourceLocation → Step
noted_use r n at s = (unless_refused (refused_here s.scopes n r) at ▸ (λ t. Done (with_scopes (with_use t.scopes n r) t))) s

abbrev pub use_name : Role → Name → SourceLocation → Step
use_name r n at s = noted_use r (written_name s n) at s

abbrev pub enter : SymbolTableType → Name → SourceLocation → Step
enter kind n at s = Done (with_scopes (entered_scan s.scopes kind n at.row) s)

abbrev pub leave : Step
leave s = Done (with_scopes (gone_out s.scopes) s)

-- a scope in the open one
abbrev pub inside : SymbolTableType → Name → SourceLocation → Step → Step
inside kind n at within = enter kind n at ▸ within ▸ leave

abbrev pub set_class : Option Name → Step
set_class c s = Done (record { scopes = s.scopes; class = c; postponed = s.postponed })

-- names are mangled by the innermost class
abbrev pub in_class : Name → Step → Step
in_class n within s = (set_class (Some n) ▸ within ▸ set_class s.class) s

-- no annotation is scanned where they are postponed
abbrev pub unless_postponed : Step → Step
unless_postponed step s = if s.postponed then Done s else step s

abbrev pub postpone : Step
postpone s = Done (record { scopes = s.scopes; class = s.class; postponed = true })

abbrev pub is_type_params : SymbolTableType → Bool
is_type_params scope.Module = false
is_type_params scope.Class = false
is_type_params scope.Function = false
is_type_params scope.Comprehension = false
is_type_params scope.TypeParams = true

-- `super` that is loaded directly in a function needs the class
abbrev pub super_cell : Name → SourceLocation → Step
super_cell n at s = if same_name n (codes "super") && is_function (kind_here s.scopes) then use_name role.Used class_cell at s else Done s

-- how a name is used as a target or a value
abbrev pub use_as : Usage → Name → SourceLocation → Step
use_as Load n at = use_name role.Used n at ▸ super_cell n at
use_as Iterable n at = use_name role.Used n at
use_as Store n at = use_name role.Assigned n at
use_as Delete n at = use_name role.Assigned n at ▸ use_name role.Used n at
use_as Target n at = use_name role.Iterated n at
use_as Walrus n at = use_name role.Walrus n at

-- no walrus stands in the iterable of a comprehension
abbrev pub check_iterable : Usage → SourceLocation → Step
check_iterable Iterable at = refuse refusal.IteratedAndAssigned at
check_iterable Load at = nothing
check_iterable Store at = nothing
check_iterable Delete at = nothing
check_iterable Target at = nothing
check_iterable Walrus at = nothing

-- no walrus binds in a scope of type parameters
abbrev pub check_holder : SourceLocation → Step
check_holder at s = refuse_if (is_type_params (holder_here s.scopes)) refusal.InTypeParams at s

-- no `yield` stands directly in one
abbrev pub check_yield : SourceLocation → Step
check_yield at s = refuse_if (is_type_params (kind_here s.scopes)) refusal.YieldInTypeParams at s

abbrev pub begun_state : State
begun_state = record { scopes = initial_scan; class = None; postponed = false }
