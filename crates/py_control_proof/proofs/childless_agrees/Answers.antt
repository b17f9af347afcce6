use Rattle.py_control_proof.proofs.CodeObjects.{childless_agrees}
use Rattle.py_control_proof.proofs.childless_agrees.Goals as goal

pub returns : goal.returns
returns c = childless_agrees
