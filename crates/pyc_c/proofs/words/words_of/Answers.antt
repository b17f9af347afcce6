use Rattle.std.proofs.Common.{◌∙◌, sym}
use Rattle.pyc_c.proofs.RunWordLemmas.{run_word_made, no_words}
use Rattle.pyc_c.proofs.words.words_of.Goals as goal

pub returns-in-Ok : goal.returns-in-Ok
returns-in-Ok c = run_word_made c.asked_words.result c.mode_word.result.now c.level_word.result.now c.in-Ok.path.now c.args.output c.args.mode c.args.level c.args.path.now
    c.asked_words.ensures c.mode_word.ensures c.level_word.ensures c.in-Ok.ensures.cases.0 c.in-Ok.ensures.cases.1

pub returns-in-Err : goal.returns-in-Err
returns-in-Err c = c.new.ensures ∙ sym (no_words c.args.output c.args.mode c.args.level c.args.path.now c.in-Err.ensures.cases.0)
