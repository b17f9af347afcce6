-- What is emitted of an access to a name, by what its scope says of it.
use Rattle.std.specs.Prelude.{ℕ, List, if◌then◌else◌}
use Rattle.py_bytecode.specs.declared.instruction.Instruction.TheVariants as op
use Rattle.py_bytecode.specs.Values.{Usage, Load, Store, Delete, Kind, Unsaid, Fast, ByName, Global, Deref, ClassDeref}
use Rattle.py_control.specs.Form.{Resolved}
use Rattle.py_emission_parts.specs.TableParts.{debug_constant, is_debug}
use Rattle.py_emission_parts.specs.Context.{Context, access_kind, cell_place, mangled_by}
use Rattle.py_emission_parts.specs.Emitting.{Emission, by_context, by_level, emit, emit_constant, emit_name, emit_varname}
use Rattle.py_emission_parts.specs.EmissionParts.{unless_debug}
use Rattle.py_emission_parts.specs.Refused.{no_assignment, no_deletion}

-- a name is loaded
abbrev pub load_by : Kind → List ℕ → (place : ℕ) → Emission
load_by Unsaid x p = emit_name op.LoadNameAny x
load_by Fast x p = emit_varname op.LoadFast x
load_by ByName x p = emit_name op.LoadNameAny x
load_by Global x p = emit_name op.LoadGlobal x
load_by Deref x p = emit op.LoadDeref p
load_by ClassDeref x p = emit op.LoadClassDeref p

-- a name is stored
abbrev pub store_by : Kind → List ℕ → (place : ℕ) → Emission
store_by Unsaid x p = emit_name op.StoreLocal x
store_by Fast x p = emit_varname op.StoreFast x
store_by ByName x p = emit_name op.StoreLocal x
store_by Global x p = emit_name op.StoreGlobal x
store_by Deref x p = emit op.StoreDeref p
store_by ClassDeref x p = emit op.StoreDeref p

-- a name is deleted
abbrev pub delete_by : Kind → List ℕ → (place : ℕ) → Emission
delete_by Unsaid x p = emit_name op.DeleteLocal x
delete_by Fast x p = emit_varname op.DeleteFast x
delete_by ByName x p = emit_name op.DeleteLocal x
delete_by Global x p = emit_name op.DeleteGlobal x
delete_by Deref x p = emit op.DeleteDeref p
delete_by ClassDeref x p = emit op.DeleteDeref p

-- what is done with a name
abbrev pub access_by : Usage → Kind → List ℕ → (place : ℕ) → Emission
access_by Load kind x p = load_by kind x p
access_by Store kind x p = store_by kind x p
access_by Delete kind x p = delete_by kind x p

-- a mangled name, by what it is in the present scope
abbrev pub accessed_in : Context → Usage → (name : List ℕ) → Emission
accessed_in c u x = access_by u (access_kind c u Resolved x) x (cell_place c x)

-- a name as the innermost class writes it
unfoldable pub name_access : Usage → List ℕ → Emission
name_access u x = by_context (λ c. accessed_in c u (mangled_by c x))

-- `__debug__` is a constant, which nothing changes
abbrev pub emission_of_name : List ℕ → Emission
emission_of_name x = if is_debug x then by_level (λ l. emit_constant op.LoadConst (debug_constant l)) else name_access Load x

-- a name is stored, but `__debug__`
abbrev pub emission_of_stored : List ℕ → Emission
emission_of_stored x = unless_debug no_assignment x (name_access Store x)

-- a name is deleted, but `__debug__`
abbrev pub emission_of_deleted : List ℕ → Emission
emission_of_deleted x = unless_debug no_deletion x (name_access Delete x)
