use Rattle.std.proofs.Common.{◌≡◌, take}
use Rattle.py_bytecode.specs.Cells.{cell_places}
use Rattle.py_ir.proofs.info.places.Given as goal

abbrev pub invariant-loop-cell : goal.invariant-loop-cell
invariant-loop-cell l = l.places.items ≡ cell_places l.count l.varnames (take l.cell-index l.cells)
