use Rattle.std.proofs.Common.{◌≡◌, map, take, true}
use Rattle.py_answers.specs.Scripts.{all_counted, answer_text}
use Rattle.py_answers.proofs.ScriptTextLemmas.{texts}
use Rattle.py_answers.proofs.answers.Script.parse.Given as goal

abbrev pub invariant-loop-piece : goal.invariant-loop-piece
invariant-loop-piece l = record {
  written : map answer_text l.answers.items ≡ take l.piece-index (texts l.piece-items);
  counts : all_counted l.answers.items ≡ true;
}
