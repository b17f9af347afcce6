use Rattle.std.proofs.Common.{◌≡◌, ℕ, List, ◌++◌, length, map}
use Rattle.py_scope.specs.declared.flat.ScopeEntry.{ScopeEntry}
use Rattle.py_scope.specs.Flat.{all_flat, flat_table}
use Rattle.py_scope.proofs.flat.+push_table.Given as goal

abbrev pub invariant-loop-sub_table : goal.invariant-loop-sub_table
invariant-loop-sub_table l = l.entries.items ≡ l.initial.entries.items ++ all_flat (map {B = ℕ → List ScopeEntry} flat_table l.yielded) (length l.initial.entries.items)
