use Rattle.py_ir.proofs.BlockListLemmas.{Flattening}
use Rattle.py_ir.proofs.chain.cut.Given as goal

abbrev pub invariant-loop-block : goal.invariant-loop-block
invariant-loop-block l = Flattening l.level l.blocks.blocks l.chain l.block-index l.items.items l.starts.items
