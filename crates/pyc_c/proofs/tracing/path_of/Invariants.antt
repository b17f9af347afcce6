use Rattle.std.proofs.Common.{◌≡◌, take}
use Rattle.pyc_c.proofs.tracing.path_of.Given as goal

abbrev pub invariant-loop-place : goal.invariant-loop-place
invariant-loop-place l = l.path.items ≡ take l.place-index l.places
