use Rattle.std.proofs.Common.{◌≡◌, drop}
use Rattle.py_bytecode.specs.View.{object}
use Rattle.py_trace.specs.Among.{code_along}
use Rattle.py_trace.proofs.among.code_along.Given as goal

abbrev pub invariant-loop-place : goal.invariant-loop-place
invariant-loop-place l = code_along (drop l.place-index l.path) (object l.reached) ≡ code_along l.path (object l.code)
