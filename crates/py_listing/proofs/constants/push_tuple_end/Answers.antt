use Rattle.std.proofs.Common.{rules}
use Rattle.py_listing.proofs.ConstantListLemmas.{tuple_end_one, tuple_end_other}
use Rattle.py_listing.proofs.constants.push_tuple_end.Goals as goal

pub returns-then-elements-eq1 : goal.returns-then-elements-eq1
returns-then-elements-eq1 c = search (rules, tuple_end_one)

pub returns-else-elements-eq1 : goal.returns-else-elements-eq1
returns-else-elements-eq1 c = search (rules, tuple_end_other)
