use Rattle.std.proofs.Common.{◌≡◌, ◌++◌, string_bytes, take, codes}
use Rattle.std.specs.List.{flat_map}
use Rattle.std.specs.Fmt.{signed_decimal}
use Rattle.py_listing.proofs.lines.push_arguments.Given as goal

abbrev pub invariant-loop-place : goal.invariant-loop-place
invariant-loop-place l = string_bytes l.out ≡ string_bytes l.initial.out ++ flat_map (λ z. codes ", " ++ signed_decimal z) (take l.place-index l.rest)
