use Rattle.py_interp.proofs.Walked.{tests_walk}
use Rattle.py_interp.proofs.laws.tests_walk.Goals as goal

pub returns : goal.returns
returns c = tests_walk
