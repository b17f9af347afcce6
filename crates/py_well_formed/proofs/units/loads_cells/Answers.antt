use Rattle.std.proofs.Common.{◌≡◌, ◌+◌, length, false, sym}
use Rattle.py_bytecode.specs.View.{head_of}
use Rattle.py_well_formed.specs.Conditions.{loads_cell}
use Rattle.py_well_formed.specs.Lines.{before}
use Rattle.py_well_formed.proofs.StepLemmas.{loads_short}
use Rattle.py_well_formed.proofs.units.loads_cells.Goals as goal

pub returns-then-not-loads_cell : goal.returns-then-not-loads_cell
returns-then-not-loads_cell c =
    let cells = length (head_of c.args.code.now).cellvars + length (head_of c.args.code.now).freevars in
    let e : loads_cell (before c.args.lines.now c.args.i (c.loop-entry.entry + 4)) cells ≡ false = cc (c.entry_line.ensures, c.loads_cell.ensures, c.if-not-loads_cell.true) in
    sym (loads_short c.args.lines.now c.args.i cells c.loop-entry.entry c.args.count c.loop-entry-test.true e)
