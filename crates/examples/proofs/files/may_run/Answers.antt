use Rattle.examples.proofs.files.may_run.Goals as goal

pub returns-clause-exact : goal.returns-clause-exact
returns-clause-exact c = (λ may. c.in_ok-verdict.ensures.exact.0 (c.is_yes.ensures.0 may), λ flawless. c.is_yes.ensures.1 (c.in_ok-verdict.ensures.exact.1 flawless))
