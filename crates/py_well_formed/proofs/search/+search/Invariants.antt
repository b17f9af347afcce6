use Rattle.std.proofs.Common.{◌≡◌, drop}
use Rattle.py_bytecode.specs.View.{constants_of}
use Rattle.py_well_formed.specs.WellFormed.{fault_among}
use Rattle.py_well_formed.proofs.search.+search.Given as goal

abbrev pub invariant-search_constants-loop-place : goal.invariant-search_constants-loop-place
invariant-search_constants-loop-place l = record {
  same : l.path ≡ l.initial.path;
  left : fault_among l.place (constants_of (drop l.place l.constants)) ≡ fault_among 0 (constants_of l.constants);
}
