use Rattle.pyc_c.proofs.pyc_run.Goals as goal

pub returns-clause-run : goal.returns-clause-run
returns-clause-run c = (c.status_of.result, c.number_of.ensures, c.status_of.ensures.run)
