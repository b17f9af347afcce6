use Rattle.std.proofs.Common.{lit<, decimal}
use Rattle.std.proofs.lemmas.Str.Pattern.{strip_prefix_char}
use Rattle.py_answers.proofs.ScriptTextLemmas.{at_none}
use Rattle.py_answers.proofs.answers.gives.Goals as goal

pub returns-in_default-clause-none : goal.returns-in_default-clause-none
returns-in_default-clause-none c =
    λ k h e. at_none _ _ c.strip_prefix.result (strip_prefix_char 103 c.args.piece.now c.strip_prefix.result c.strip_prefix.ensures.cases (lit< tt)) c.in_default.is (decimal k) e
