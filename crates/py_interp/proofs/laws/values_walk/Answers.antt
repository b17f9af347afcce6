use Rattle.py_interp.proofs.Walked.{values_walk}
use Rattle.py_interp.proofs.laws.values_walk.Goals as goal

pub returns : goal.returns
returns c = values_walk
