use Rattle.std.proofs.Common.{List, map, subst}
use Rattle.py_ir.specs.declared.blocks.Block.{Block}
use Rattle.py_ir.specs.Chain.{plain}
use Rattle.py_ir.specs.Refusals.{Refused}
use Rattle.py_ir.proofs.flat_code.FlatCode.from_info.Goals as goal

pub returns-in-Err-clause-refused : goal.returns-in-Err-clause-refused
returns-in-Err-clause-refused c = λ t level. subst (λ (bs : List Block). Refused t level (map plain bs) c.in-Err.error) c.as_slice.ensures (c.in-Err.ensures.refused t level)
