use Rattle.py_interp.proofs.Walked.{meanings_walk}
use Rattle.py_interp.proofs.laws.meanings_walk.Goals as goal

pub returns : goal.returns
returns c = meanings_walk
