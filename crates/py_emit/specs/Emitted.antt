-- The code object of what is emitted.
use Rattle.std.specs.Prelude.{◌≡◌, length, map}
use Rattle.py_bytecode.specs.declared.code.CodeObject.{CodeObject}
use Rattle.py_bytecode.specs.View.{constant}
use Rattle.py_ir.specs.declared.info.CodeInfo.{CodeInfo}
use Rattle.py_ir.specs.Chain.{plain}
use Rattle.py_ir.specs.Final.{IsFinal}
use Rattle.py_emission_parts.specs.Context.{Context}
use Rattle.py_emission_parts.specs.Emitting.{State, Outcome, Done, TooWide, Refused}
use Rattle.py_emission_parts.specs.Sealed.{Head, flags_of}
use Rattle.py_emit.specs.States.{module_head}
use Rattle.py_emit.specs.Steps.{steps_in}

-- the blocks and the tables are what is emitted, and the rest is the head
pub record Holds (info : CodeInfo) (head : Head) (s : State) : Type 0 where
  pub flags : info.flags.0 ≡ flags_of s.generator head.flags
  pub posonlyarg_count : info.posonlyarg_count ≡ head.posonlyarg_count
  pub arg_count : info.arg_count ≡ head.arg_count
  pub kwonlyarg_count : info.kwonlyarg_count ≡ head.kwonlyarg_count
  pub source_path : info.source_path ≡ head.source_path
  pub first_line_number : info.first_line_number ≡ head.first_line_number
  pub obj_name : info.obj_name ≡ head.obj_name
  pub steps : steps_in (map plain info.blocks) ≡ s.steps
  pub blocks : length info.blocks ≡ s.blocks
  pub names : info.name_cache ≡ s.names
  pub constants : map constant info.constants ≡ s.constants
  pub varnames : info.varname_cache ≡ s.varnames
  pub cellvars : info.cellvar_cache ≡ head.cellvars
  pub freevars : info.freevar_cache ≡ head.freevars

-- the code object is what blocks and tables that hold what is emitted are laid out to
pub record IsMade (code : CodeObject) (c : Context) (s : State) : Type 0 where
  pub info : CodeInfo
  pub holds : Holds info (module_head c) s
  pub final : IsFinal c.level info code

abbrev pub IsEmitted : CodeObject → Context → Outcome → Type 0
IsEmitted code c (Done s) = IsMade code c s
IsEmitted code c TooWide = ⊥
IsEmitted code c (Refused e at) = ⊥
