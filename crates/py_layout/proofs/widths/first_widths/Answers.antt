use Rattle.std.proofs.Common.{map, ap, ◌∙◌, arith}
use Rattle.std.proofs.lemmas.List.{take_all}
use Rattle.py_layout.specs.Widths.{narrowest}
use Rattle.py_layout.proofs.WidthRoundLemmas.{first_least}
use Rattle.py_layout.proofs.widths.first_widths.Goals as goal

pub returns-clause-least : goal.returns-clause-least
returns-clause-least c = λ others h. first_least c.args.needs.now c.loop-need.widths.items others (c.loop-need.invariant ∙ ap (map narrowest) (take_all _ c.args.needs.now (omega arith))) h
