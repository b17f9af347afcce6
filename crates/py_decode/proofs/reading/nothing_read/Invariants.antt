use Rattle.std.proofs.Common.{◌≡◌, Option, None, replicate}
use Rattle.py_decode.specs.declared.reading.UnitRead.{UnitRead}
use Rattle.py_decode.proofs.reading.nothing_read.Given as goal

abbrev pub invariant-loop : goal.invariant-loop
invariant-loop l = let none : Option UnitRead = None in l.reads.items ≡ replicate l.counter none
