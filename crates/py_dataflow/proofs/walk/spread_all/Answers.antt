use Rattle.py_dataflow.proofs.walk.spread_all.Goals as goal

pub returns-then-not-branch-clause-settled : goal.returns-then-not-branch-clause-settled
returns-then-not-branch-clause-settled c = c.in_ok-spread.ensures.settled c.if-not-branch.true
