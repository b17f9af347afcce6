use Rattle.std.proofs.Common.{◌≡◌, drop, map}
use Rattle.py_bytecode.specs.View.{constant, head_of}
use Rattle.py_well_formed.specs.Conditions.{line_fault}
use Rattle.py_well_formed.proofs.units.fault_in_lines.Given as goal

abbrev pub invariant-loop-i : goal.invariant-loop-i
invariant-loop-i l = line_fault (head_of l.code) (map constant l.code.constants) l.lines l.i (drop l.i l.lines) ≡ line_fault (head_of l.code) (map constant l.code.constants) l.lines 0 l.lines
