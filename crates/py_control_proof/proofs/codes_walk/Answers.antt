use Rattle.py_control_proof.proofs.CodesWalk.{codes_walk}
use Rattle.py_control_proof.proofs.codes_walk.Goals as goal

pub returns : goal.returns
returns c = codes_walk
