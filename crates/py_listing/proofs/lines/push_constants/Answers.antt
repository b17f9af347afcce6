use Rattle.std.proofs.Common.{rules}
use Rattle.py_listing.proofs.ConstantListLemmas.{nothing_appended, constants_line_none}
use Rattle.py_listing.proofs.lines.push_constants.Goals as goal

pub returns-then-is_empty : goal.returns-then-is_empty
returns-then-is_empty c = nothing_appended _ _ (constants_line_none _ (search rules))
