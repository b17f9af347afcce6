use Rattle.std.proofs.Common.{◌∙◌}
use Rattle.py_scope.specs.Making.{all_kinds}
use Rattle.py_scope.proofs.tables.table_of_rows.Goals as goal

pub nest-requires-clause-kinds : goal.nest-requires-clause-kinds
nest-requires-clause-kinds c = c.in_ok-kinds.ensures ∙ (λ j. all_kinds (c.deref-2.ensures.value j) 0 (c.deref-2.ensures.value j))
