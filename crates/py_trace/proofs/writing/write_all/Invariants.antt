use Rattle.std.proofs.Common.{◌≡◌, ◌≤◌, ◌-◌, length, take, IsTrue}
use Rattle.std.specs.Io.KnownBytes.{Appends}
use Rattle.py_trace.proofs.writing.write_all.Given as goal

abbrev pub invariant-writing : goal.invariant-writing
invariant-writing g l = record {
  within : l.at ≤ length l.text;
  taken : Appends (g.K.Sink.held l.initial.sink) (g.K.Sink.held l.sink) (take l.at l.text);
  later : g.K.Sink.faults l.initial.sink ≤ g.K.Sink.faults l.sink;
  still : IsTrue g.K.Sink.counts_failures → g.K.Sink.faults l.sink ≡ g.K.Sink.faults l.initial.sink;
}

abbrev pub decreases-writing : goal.decreases-writing
decreases-writing g l = length l.text - l.at
