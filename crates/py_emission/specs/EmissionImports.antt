-- What is emitted of imports.
use Rattle.std.specs.Prelude.{ℕ, List, [], ◌∷◌, Option, Some, None, pos, if◌then◌else◌}
use Rattle.py_tree.specs.declared.statements.Alias.{Alias}
use Rattle.py_bytecode.specs.declared.instruction.Instruction.TheVariants as op
use Rattle.py_bytecode.specs.Objects as const
use Rattle.py_bytecode.specs.Objects.{Const}
use Rattle.py_base.specs.declared.errors.CodegenErrorType.TheVariants as error
use Rattle.py_emission_parts.specs.Accesses.{emission_of_stored}
use Rattle.py_emission_parts.specs.Context.{is_function}
use Rattle.py_emission_parts.specs.Emitting.{Emission, ◌▸◌, by_context, emit, emit_constant, emit_mangled, keep, refuse}
use Rattle.py_emission.specs.Imports.{asked_tuple, asked_all, further_segments, import_name, taken_name, takes_all}

-- a module is imported by its path, or has none
abbrev pub import_step : (path : Option (List ℕ)) → Emission
import_step None = emit op.ImportNameless 0
import_step (Some path) = emit_mangled op.ImportName path

-- so many packages further out, and asked for these names
abbrev pub emission_of_module : (path : Option (List ℕ)) → (level : ℕ) → (names : Const) → Emission
emission_of_module path level names = emit_constant op.LoadConst (const.integer (pos level)) ▸ emit_constant op.LoadConst names ▸ import_step path

-- each segment is an attribute of what stands before it
abbrev pub emission_of_attributes : List (List ℕ) → Emission
emission_of_attributes [] = keep
emission_of_attributes (x ∷ xs) = emit_mangled op.LoadAttr x ▸ emission_of_attributes xs

-- the package of the first segment, or the module itself, where it has a name of its own
abbrev pub emission_of_imported : (path : List ℕ) → Option (List ℕ) → Emission
emission_of_imported path None = emission_of_module (Some path) 0 const.none
emission_of_imported path (Some name) = emission_of_module (Some path) 0 const.none ▸ emission_of_attributes (further_segments path)

-- a module, and what stores it
abbrev pub emission_of_alias : Alias → Emission
emission_of_alias a = emission_of_imported a.name a.asname ▸ emission_of_stored (import_name a)

-- modules one after another
abbrev pub emission_of_import : List Alias → Emission
emission_of_import [] = keep
emission_of_import (a ∷ rest) = emission_of_alias a ▸ emission_of_import rest

-- a name of a module, and what stores it
abbrev pub emission_of_taken : Alias → Emission
emission_of_taken a = emit_mangled op.ImportFrom a.name ▸ emission_of_stored (taken_name a)

-- names are taken from a module, which goes at the end
abbrev pub emission_of_names : List Alias → Emission
emission_of_names [] = emit op.Pop 0
emission_of_names (a ∷ rest) = emission_of_taken a ▸ emission_of_names rest

-- no function takes all names of a module
abbrev pub emission_of_star : (path : Option (List ℕ)) → (level : ℕ) → Emission
emission_of_star path level = by_context (λ c. if is_function c.typ then refuse error.FunctionImportStar else emission_of_module path level asked_all ▸ emit op.ImportStar 0)

-- all names of a module, or some
abbrev pub emission_of_from : (path : Option (List ℕ)) → List Alias → (level : ℕ) → Emission
emission_of_from path names level = if takes_all names then emission_of_star path level else emission_of_module path level (asked_tuple names) ▸ emission_of_names names
