use Rattle.std.proofs.Common.{ap, map}
use Rattle.std.specs.Prelude.{string_bytes}
use Rattle.py_ir.proofs.sets.NameSet.new.Goals as goal

pub returns : goal.returns
returns c = ap (map string_bytes) c.new.ensures.empty
