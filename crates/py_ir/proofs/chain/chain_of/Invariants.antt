use Rattle.std.proofs.Common.{map}
use Rattle.std.specs.Prelude.{not}
use Rattle.std.specs.List.{count_by}
use Rattle.py_ir.specs.Chain.{plain}
use Rattle.py_ir.proofs.ChainOrderLemmas.{Following}
use Rattle.py_ir.proofs.chain.chain_of.Given as goal

abbrev pub invariant-loop-chain : goal.invariant-loop-chain
invariant-loop-chain l = Following (map plain l.blocks) l.chain.items l.block l.met.items

abbrev pub decreases-loop-chain : goal.decreases-loop-chain
decreases-loop-chain l = count_by not l.met.items
