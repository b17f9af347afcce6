-- What constant and what object of `Objects` a Rust value is.
use Rattle.std.specs.Prelude.{List, map}
use Rattle.py_bytecode.specs.Objects as obj
use Rattle.py_bytecode.specs.Objects.{Head, Const, Consts, Object, consts_of}
use Rattle.py_bytecode.specs.declared.code.ConstantData.{ConstantData, ConstantData-F, fold-ConstantData}
use Rattle.py_bytecode.specs.declared.code.CodeObject.{CodeObject, CodeObject-F, fold-CodeObject}

abbrev pub const_layer : ConstantData-F Const Object → Const
const_layer ConstantData-F.None = obj.none
const_layer (ConstantData-F.Boolean b) = obj.boolean b
const_layer (ConstantData-F.Str t) = obj.str t
const_layer (ConstantData-F.Bytes bs) = obj.bytes bs
const_layer (ConstantData-F.Integer z) = obj.integer z
const_layer (ConstantData-F.Tuple cs) = obj.tuple (consts_of cs)
const_layer ConstantData-F.Ellipsis = obj.ellipsis
const_layer (ConstantData-F.Code c) = obj.code c.value

abbrev pub object_layer : CodeObject-F Const Object → Object
object_layer c = obj.object_of (record {
  flags = c.flags.0;
  posonlyarg_count = c.posonlyarg_count;
  arg_count = c.arg_count;
  kwonlyarg_count = c.kwonlyarg_count;
  source_path = c.source_path;
  first_line_number = c.first_line_number;
  obj_name = c.obj_name;
  max_stackdepth = c.max_stackdepth;
  instructions = c.instructions;
  locations = c.locations;
  names = c.names;
  varnames = c.varnames;
  cellvars = c.cellvars;
  freevars = c.freevars;
  cell2arg = c.cell2arg;
}) (consts_of c.constants)

-- what stands in a code object beside its constants
abbrev pub head_of : CodeObject → Head
head_of c = record {
  flags = c.flags.0;
  posonlyarg_count = c.posonlyarg_count;
  arg_count = c.arg_count;
  kwonlyarg_count = c.kwonlyarg_count;
  source_path = c.source_path;
  first_line_number = c.first_line_number;
  obj_name = c.obj_name;
  max_stackdepth = c.max_stackdepth;
  instructions = c.instructions;
  locations = c.locations;
  names = c.names;
  varnames = c.varnames;
  cellvars = c.cellvars;
  freevars = c.freevars;
  cell2arg = c.cell2arg;
}

abbrev pub constant : ConstantData → Const
constant = fold-ConstantData Const Object const_layer object_layer

abbrev pub object : CodeObject → Object
object = fold-CodeObject Const Object const_layer object_layer

-- the constants of a list
abbrev pub constants_of : List ConstantData → Consts
constants_of xs = consts_of (map constant xs)
