use Rattle.std.proofs.Common.{◌≡◌, ◌<◌, ℕ, true, false, length, get_or}
use Rattle.std.specs.List.{Contains}
use Rattle.py_ir.proofs.finalize.inside_of.Given as goal

abbrev pub invariant-loop-block : goal.invariant-loop-block
invariant-loop-block l = record {
  long : length l.inside.items ≡ l.count;
  inside : (c : ℕ) → get_or l.inside.items c false ≡ true → Contains l.chain c;
  marked : (k : ℕ) → k < l.block-index → get_or l.inside.items (get_or l.chain k 0) false ≡ true;
}
