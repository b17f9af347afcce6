use Rattle.std.proofs.Common.{◌≡◌, ◌<◌, ℕ, None, [], get_or}
use Rattle.py_bytecode.specs.Cells.{parameter_of}
use Rattle.py_ir.proofs.info.is_any.Given as goal

abbrev pub invariant-loop-cell : goal.invariant-loop-cell
invariant-loop-cell l = (k : ℕ) → k < l.cell-index → parameter_of l.count l.varnames (get_or l.cells k []) ≡ None
