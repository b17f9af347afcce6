use Rattle.py_dataflow.proofs.Codes.{right}
use Rattle.py_dataflow.proofs.laws.sound_is_never_wrong.Goals as goal

pub returns : goal.returns
returns c = right
