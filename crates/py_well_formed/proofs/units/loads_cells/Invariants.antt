use Rattle.std.proofs.Common.{◌≡◌, ◌+◌, length, true}
use Rattle.py_bytecode.specs.View.{head_of}
use Rattle.py_well_formed.specs.Conditions.{loads_cells}
use Rattle.py_well_formed.proofs.units.loads_cells.Given as goal

abbrev pub invariant-loop-entry : goal.invariant-loop-entry
invariant-loop-entry l = loads_cells l.lines l.i (length (head_of l.code).cellvars + length (head_of l.code).freevars) l.entry ≡ true
