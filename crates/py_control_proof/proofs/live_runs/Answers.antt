use Rattle.py_control_proof.proofs.BlockMachine.{live_runs}
use Rattle.py_control_proof.proofs.live_runs.Goals as goal

pub returns : goal.returns
returns c = live_runs
