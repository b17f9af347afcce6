use Rattle.py_scope_proof.proofs.CellLoads.CellLoadLemmas.{codes_load_few}
use Rattle.py_scope_proof.proofs.laws_of_loads.codes_load_few.Goals as goal

pub returns : goal.returns
returns c = codes_load_few
