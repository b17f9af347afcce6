use Rattle.py_interp.proofs.Walked.{targets_walk}
use Rattle.py_interp.proofs.laws.targets_walk.Goals as goal

pub returns : goal.returns
returns c = targets_walk
