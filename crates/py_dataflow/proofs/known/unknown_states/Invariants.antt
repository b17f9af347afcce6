use Rattle.std.proofs.Common.{◌≡◌, Option, None, replicate}
use Rattle.py_dataflow.specs.declared.known.KnownState.{KnownState}
use Rattle.py_dataflow.proofs.known.unknown_states.Given as goal

abbrev pub invariant-loop : goal.invariant-loop
invariant-loop l = let none : Option KnownState = None in l.states.items ≡ replicate l.counter none
