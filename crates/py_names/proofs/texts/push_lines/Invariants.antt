use Rattle.std.proofs.Common.{◌≡◌, ◌++◌, string_bytes, drop}
use Rattle.py_names.specs.Lines.{found_text}
use Rattle.py_names.proofs.texts.push_lines.Given as goal

abbrev pub invariant-loop-finding : goal.invariant-loop-finding
invariant-loop-finding l = string_bytes l.out ++ found_text l.places (drop l.finding-index l.found) ≡ string_bytes l.initial.out ++ found_text l.places l.found
