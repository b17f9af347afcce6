use Rattle.py_bytecode.proofs.ConstantLaws.{equal_is_same}
use Rattle.py_bytecode.proofs.laws.equal_is_same.Goals as goal

pub returns : goal.returns
returns c = equal_is_same
