use Rattle.std.proofs.Common.{◌≡◌, ℕ, ap, arith, decimal, subst, ◌∙◌, Ok}
use Rattle.std.proofs.lemmas.Fmt.{parse-decimal}
use Rattle.py_answers.specs.Scripts.{IsCount}
use Rattle.py_answers.proofs.ScriptTextLemmas.{script_text_not_true}
use Rattle.py_answers.proofs.answers.count.Goals as goal
use Rattle.py_answers.proofs.answers.count.Goals.{else-is_count-via-then-is_count+else-is_written, else-is_count-via-else-is_count}

pub returns-in_default-clause-none : goal.returns-in_default-clause-none
returns-in_default-clause-none c =
    λ k h e. let p : c.parse.result ≡ Ok k = parse-decimal 32 k c.args.digits.now c.parse.result (omega (arith, h.1)) (omega (arith, h.1)) e c.parse.ensures.value.0 in cc

pub returns-else-is_count-clause-none : goal.returns-else-is_count-clause-none
returns-else-is_count-clause-none c =
    λ k h e.
    let p : c.parse.result ≡ Ok k = parse-decimal 32 k c.args.digits.now c.parse.result (omega (arith, h.1)) (omega (arith, h.1)) e c.parse.ensures.value.0 in
    let same : k ≡ c.in-Ok.number = cc in
    elim c.else-is_count.branch [
      | else-is_count-via-then-is_count+else-is_written w ↦ script_text_not_true w.is_written.result w.if-is_written.false (w.is_written.ensures.1 (e ∙ ap decimal same))
      | else-is_count-via-else-is_count w ↦ script_text_not_true c.is_count.result w.if-is_count.false (c.is_count.ensures.1 (subst (λ (n : ℕ). IsCount n) same h))
    ]
