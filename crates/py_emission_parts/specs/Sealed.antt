-- The code object of what is emitted for a scope, as a function of it.
use Rattle.std.specs.Prelude.{ℕ, List, ◌++◌, Bool, true, false, Some}
use Rattle.std.specs.Int.RustNames.{bit_or}
use Rattle.py_bytecode.specs.Cells.{parameter_count, cell2arg_of}
use Rattle.py_bytecode.specs.Decode.{Tables}
use Rattle.py_bytecode.specs.Objects as obj
use Rattle.py_bytecode.specs.Objects.{Object, object_of, consts_of}
use Rattle.py_dataflow.specs.Highest.{height_of}
use Rattle.py_layout.specs.Assembled.{Assembled, assembled_code}
use Rattle.py_emission_parts.specs.Emitting.{Step, State}
use Rattle.py_emission_parts.specs.Listed.{items_in, steps_at, starts_in}

-- what a code object says of its scope; flags but that of a generator
pub record Head : Type 0 where
  pub flags : ℕ
  pub posonlyarg_count : ℕ
  pub arg_count : ℕ
  pub kwonlyarg_count : ℕ
  pub source_path : List ℕ
  pub first_line_number : ℕ
  pub obj_name : List ℕ
  pub cellvars : List (List ℕ)
  pub freevars : List (List ℕ)

-- the tables that operands name
abbrev pub tables_in : Head → State → Tables
tables_in h s = record { constants = s.constants; names = s.names; varnames = s.varnames; cells = h.cellvars ++ h.freevars }

-- a generator has a flag of its own
abbrev pub flags_of : (generator : Bool) → (flags : ℕ) → ℕ
flags_of false flags = flags
flags_of true flags = bit_or flags 0x02

-- the units of so many blocks
abbrev pub assembled_steps : (blocks : ℕ) → List Step → Assembled
assembled_steps blocks xs = assembled_code (starts_in blocks xs) (items_in xs)

-- all of the code object but its constants, with these units
abbrev pub head_with : Head → State → Assembled → obj.Head
head_with h s a = record {
  flags = flags_of s.generator h.flags;
  posonlyarg_count = h.posonlyarg_count;
  arg_count = h.arg_count;
  kwonlyarg_count = h.kwonlyarg_count;
  source_path = h.source_path;
  first_line_number = Some h.first_line_number;
  obj_name = h.obj_name;
  max_stackdepth = height_of (tables_in h s) a.units;
  instructions = a.units;
  locations = a.locations;
  names = s.names;
  varnames = s.varnames;
  cellvars = h.cellvars;
  freevars = h.freevars;
  cell2arg = cell2arg_of (parameter_count (flags_of s.generator h.flags) h.arg_count h.kwonlyarg_count) s.varnames h.cellvars;
}

-- the code object at an optimization level
unfoldable pub assembled_object : (level : ℕ) → Head → State → Object
assembled_object level h s = object_of (head_with h s (assembled_steps s.blocks (steps_at level s.steps))) (consts_of s.constants)
