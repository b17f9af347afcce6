use Rattle.std.proofs.Common.{ap, ◌∙◌}
use Rattle.py_tree.specs.View.{mod_tree}
use Rattle.py_names.specs.Lines.{ended_lines}
use Rattle.py_names.proofs.LineLemmas.{tree_lines}
use Rattle.py_names.proofs.texts.report_text.Goals as goal

pub returns-in-Ok-clause-text : goal.returns-in-Ok-clause-text
returns-in-Ok-clause-text c = c.in-Ok.ensures ∙ ap ended_lines (tree_lines (mod_tree c.args.tree.now) c.in_ok-table.table c.in_ok-table.ensures.clean c.in_ok-table.ensures.table)
