use Rattle.std.proofs.Common.{◌≡◌, ◌++◌, string_bytes, drop}
use Rattle.py_listing.specs.Listing.{listings}
use Rattle.py_bytecode.specs.View.{constants_of}
use Rattle.py_listing.proofs.disassembly.+listing.Given as goal

abbrev pub invariant-push_codes-loop-item : goal.invariant-push_codes-loop-item
invariant-push_codes-loop-item l = string_bytes l.out ++ listings (constants_of (drop l.item-index l.constants)) ≡ string_bytes l.initial.out ++ listings (constants_of l.constants)
