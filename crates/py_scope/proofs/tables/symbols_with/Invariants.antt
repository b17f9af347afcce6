use Rattle.std.proofs.Common.{◌≡◌, take, drop}
use Rattle.py_scope.specs.Making.{symbols_with}
use Rattle.py_scope.proofs.tables.symbols_with.Given as goal

abbrev pub invariant-loop-i : goal.invariant-loop-i
invariant-loop-i l = record {
  left : l.pairs ≡ drop l.i l.fn.entries;
  made : l.symbols ≡ symbols_with (take l.i l.fn.entries) l.kinds;
}
