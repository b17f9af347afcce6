use Rattle.py_rows_law.proofs.FormatLemmas.{rows_tree_is}
use Rattle.py_rows_law.proofs.laws.format_is_read.Goals as goal

pub returns : goal.returns
returns c = rows_tree_is
