use Rattle.std.proofs.Common.{append_assoc}
use Rattle.py_sample.proofs.counting.lines.Goals as goal

pub returns : goal.returns
returns c = simp append_assoc c.format.ensures.ok
