use Rattle.std.proofs.Common.{◌≡◌, ◌++◌, string_bytes, drop}
use Rattle.py_answers.specs.Lines.{event_lines}
use Rattle.py_answers.specs.Told.{events_of}
use Rattle.py_answers.proofs.lines.push_events.Given as goal

abbrev pub invariant-loop-event : goal.invariant-loop-event
invariant-loop-event l = string_bytes l.out ++ event_lines (events_of (drop l.event-index l.events)) ≡ string_bytes l.initial.out ++ event_lines (events_of l.events)
