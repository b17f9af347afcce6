use Rattle.std.proofs.Common.{◌≡◌, ◌≤◌, ◌-◌, length, IsTrue}
use Rattle.std.specs.Io.KnownBytes.{Consumes}
use Rattle.py_trace.proofs.reading.read_all.Given as goal

abbrev pub invariant-reading : goal.invariant-reading
invariant-reading g l = record {
  taken : Consumes (g.S.Source.left l.initial.source) (g.S.Source.left l.source) l.found.items;
  small : length l.found.items ≤ 67108864;
  later : g.S.Source.faults l.initial.source ≤ g.S.Source.faults l.source;
  still : IsTrue g.S.Source.counts_failures → g.S.Source.faults l.source ≡ g.S.Source.faults l.initial.source;
}

abbrev pub decreases-reading : goal.decreases-reading
decreases-reading g l = 67108864 - length l.found.items
