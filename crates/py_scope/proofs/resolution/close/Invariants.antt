use Rattle.std.proofs.Common.{◌≡◌, ◌<◌, ◌++◌, ◌∷◌, length}
use Rattle.py_scope.specs.Outward.{enclosing_scopes, parents}
use Rattle.py_scope.proofs.resolution.close.Given as goal

abbrev pub invariant-loop-at : goal.invariant-loop-at
invariant-loop-at l = record {
  within : l.at < length l.rows;
  so_far : l.left.items ++ enclosing_scopes (parents l.rows) l.at ≡ l.fn.left.items ++ l.current ∷ enclosing_scopes (parents l.rows) l.current;
}

abbrev pub decreases-loop-at : goal.decreases-loop-at
decreases-loop-at l = l.at
