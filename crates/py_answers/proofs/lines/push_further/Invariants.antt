use Rattle.std.proofs.Common.{◌≡◌, ◌++◌, string_bytes, drop}
use Rattle.py_answers.specs.Lines.{further_text}
use Rattle.py_answers.specs.Told.{values_of}
use Rattle.py_answers.proofs.lines.push_further.Given as goal

abbrev pub invariant-loop-value : goal.invariant-loop-value
invariant-loop-value l = string_bytes l.out ++ further_text (values_of (drop l.value-index l.operands)) ≡ string_bytes l.initial.out ++ further_text (values_of l.operands)
