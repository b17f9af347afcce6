use Rattle.py_step_machine.proofs.ReverseLemmas.{cut}
use Rattle.py_step_machine.proofs.pile.Pile.cut.Goals as goal

pub returns : goal.returns
returns g c = let at_height = cut c.args.height c.self.inside.items.items in cc
