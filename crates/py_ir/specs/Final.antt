-- What code object is made of a `CodeInfo`.
use Rattle.std.specs.Prelude.{◌≡◌, ℕ, List, ◌++◌, length, map, Some}
use Rattle.py_base.specs.declared.location.SourceLocation.{SourceLocation}
use Rattle.py_bytecode.specs.declared.operand.CodeUnit.{CodeUnit}
use Rattle.py_bytecode.specs.declared.code.CodeObject.{CodeObject}
use Rattle.py_bytecode.specs.Objects.{Object}
use Rattle.py_bytecode.specs.Values.{Answer, Ran}
use Rattle.py_bytecode.specs.Machine.{fuel}
use Rattle.py_bytecode.specs.Decode.{Tables}
use Rattle.py_bytecode.specs.Units.{machine}
use Rattle.py_bytecode.specs.Cells.{parameter_count}
use Rattle.py_bytecode.specs.Blocks.{block_machine}
use Rattle.py_bytecode.specs.View.{constant, object}
use Rattle.py_dataflow.specs.Sound.{sound}
use Rattle.py_ir.specs.declared.info.CodeInfo.{CodeInfo}
use Rattle.py_ir.specs.Chain.{plain, coded_blocks}
use Rattle.py_ir.specs.Finished.{IsLaid, IsCell2Arg}

-- the tables that operands name
abbrev pub tables_of : CodeInfo → Tables
tables_of c = record { constants = map constant c.constants; names = c.name_cache; varnames = c.varname_cache; cells = c.cellvar_cache ++ c.freevar_cache }

-- the run of the blocks, in as many steps as the run of so many units may take
abbrev pub runs_of : CodeInfo → (units : ℕ) → List Answer → Ran Object
runs_of c units answers = block_machine (tables_of c) (coded_blocks (map plain c.blocks)) (fuel units answers) answers

-- what is handed on as it is given, and the places of the cells that are parameters
pub record IsGiven (info : CodeInfo) (code : CodeObject) : Type 0 where
  pub flags : code.flags ≡ info.flags
  pub posonlyarg_count : code.posonlyarg_count ≡ info.posonlyarg_count
  pub arg_count : code.arg_count ≡ info.arg_count
  pub kwonlyarg_count : code.kwonlyarg_count ≡ info.kwonlyarg_count
  pub source_path : code.source_path ≡ info.source_path
  pub first_line_number : code.first_line_number ≡ Some info.first_line_number
  pub obj_name : code.obj_name ≡ info.obj_name
  pub constants : code.constants ≡ info.constants
  pub names : code.names ≡ info.name_cache
  pub varnames : code.varnames ≡ info.varname_cache
  pub cellvars : code.cellvars ≡ info.cellvar_cache
  pub freevars : code.freevars ≡ info.freevar_cache
  pub cell2arg : IsCell2Arg (parameter_count info.flags.0 info.arg_count info.kwonlyarg_count) info.varname_cache info.cellvar_cache code.cell2arg

-- what is handed on, with these units, these locations and this height
pub record IsFilled (info : CodeInfo) (units : List CodeUnit) (locations : List SourceLocation) (depth : ℕ) (code : CodeObject) : Type 0 where
  pub given : IsGiven info code
  pub units_are : code.instructions ≡ units
  pub locations_are : code.locations ≡ locations
  pub depth_is : code.max_stackdepth ≡ depth

-- the code is sound, and does what the blocks do
pub record IsFinal (level : ℕ) (info : CodeInfo) (code : CodeObject) : Type 0 where
  pub given : IsGiven info code
  pub laid : IsLaid (tables_of info) level (map plain info.blocks) code.instructions code.locations code.max_stackdepth
  pub sound : sound (object code)
  pub runs : (answers : List Answer) → machine (object code) answers ≡ runs_of info (length code.instructions) answers
