use Rattle.py_scope.proofs.lifts.+lift_from.Given as goal

abbrev pub decreases-lift_from : goal.decreases-lift_from
decreases-lift_from l = l.at
