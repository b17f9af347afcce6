use Rattle.std.proofs.Common.{ap, sym}
use Rattle.py_answers.specs.Log.{world_of}
use Rattle.py_answers.specs.Told.{value_of}
use Rattle.py_interp.specs.Acting.{load}
use Rattle.py_interp_exprs.proofs.ContinuationLemmas.{continuation_same}
use Rattle.py_interp_simple.proofs.raises.load_assertion.Goals as goal

pub returns : goal.returns
returns c = continuation_same value_of c.load.result _ _ _ (ap (λ n. load n (world_of c.args.log.now)) (sym c.in_ok-name.ensures.ok)) c.load.ensures
