use Rattle.std.proofs.Common.{◌≡◌, ◌++◌, take, drop}
use Rattle.py_ir.specs.Chain.{cut}
use Rattle.py_ir.proofs.chain.body_len.Given as goal

abbrev pub invariant-loop-i : goal.invariant-loop-i
invariant-loop-i l = cut l.items ≡ take l.i l.items ++ cut (drop l.i l.items)
