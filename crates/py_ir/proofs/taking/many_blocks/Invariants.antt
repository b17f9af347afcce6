use Rattle.std.proofs.Common.{◌≡◌}
use Rattle.py_ir.specs.BlockList.{empty_blocks}
use Rattle.py_ir.proofs.taking.many_blocks.Given as goal

abbrev pub invariant-loop-made : goal.invariant-loop-made
invariant-loop-made l = l.blocks ≡ empty_blocks l._made
