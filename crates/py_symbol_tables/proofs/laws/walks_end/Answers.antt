use Rattle.py_symbol_tables.proofs.EnteredScopeLemmas.{all_walks_end}
use Rattle.py_symbol_tables.proofs.laws.walks_end.Goals as goal

pub returns : goal.returns
returns c = all_walks_end
