use Rattle.py_scope.proofs.marks.+mark_from.Given as goal

abbrev pub decreases-mark_from : goal.decreases-mark_from
decreases-mark_from l = l.at
