-- A `FlatCode` as a `CodeInfo`, and what it keeps of the one that it is made from.
use Rattle.std.specs.Prelude.{◌≡◌}
use Rattle.py_ir.specs.declared.info.CodeInfo.{CodeInfo}
use Rattle.py_ir.specs.declared.flat_code.FlatCode.{FlatCode}
use Rattle.py_ir.specs.BlockList.{BlockList, IsChainOf}

abbrev pub with_blocks : CodeInfo → BlockList → CodeInfo
with_blocks info v = record info { blocks = v.blocks; current_block = v.current }

-- the same fields, with the blocks and the current block of the body
abbrev pub info_of : FlatCode → CodeInfo
info_of c = record {
  flags = c.flags;
  posonlyarg_count = c.posonlyarg_count;
  arg_count = c.arg_count;
  kwonlyarg_count = c.kwonlyarg_count;
  source_path = c.source_path;
  first_line_number = c.first_line_number;
  obj_name = c.obj_name;
  blocks = c.body.blocks;
  current_block = c.body.current;
  constants = c.constants;
  name_cache = c.name_cache;
  varname_cache = c.varname_cache;
  cellvar_cache = c.cellvar_cache;
  freevar_cache = c.freevar_cache;
}

-- the code is the `CodeInfo` but for blocks outside the chain, which are emptied, and the current block
pub record IsTaken (info : CodeInfo) (code : FlatCode) : Type 0 where
  pub blocks : IsChainOf info.blocks code.body
  pub others : info_of code ≡ with_blocks info code.body
