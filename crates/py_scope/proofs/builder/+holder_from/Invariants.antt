use Rattle.py_scope.proofs.builder.+holder_from.Given as goal

abbrev pub decreases-holder_from : goal.decreases-holder_from
decreases-holder_from l = l.at
