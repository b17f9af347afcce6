use Rattle.std.proofs.Common.{◌≡◌, ◌++◌, string_bytes, take}
use Rattle.py_listing.specs.Listing.{joined_constants}
use Rattle.py_bytecode.specs.View.{constants_of}
use Rattle.py_listing.proofs.constants.+constant_text.Given as goal

abbrev pub invariant-push_joined-loop-i : goal.invariant-push_joined-loop-i
invariant-push_joined-loop-i l = string_bytes l.out ≡ string_bytes l.initial.out ++ joined_constants (constants_of (take l.i l.elements))
