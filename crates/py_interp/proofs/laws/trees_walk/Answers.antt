use Rattle.py_interp.proofs.Walked.{trees_walk}
use Rattle.py_interp.proofs.laws.trees_walk.Goals as goal

pub returns : goal.returns
returns c = trees_walk
