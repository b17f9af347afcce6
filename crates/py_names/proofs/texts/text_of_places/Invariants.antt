use Rattle.std.proofs.Common.{◌≡◌, string_bytes, take}
use Rattle.py_names.specs.Lines.{found_text}
use Rattle.py_names.specs.Places.{found_from}
use Rattle.py_names.proofs.texts.text_of_places.Given as goal

abbrev pub invariant-loop-scope : goal.invariant-loop-scope
invariant-loop-scope l = string_bytes l.out ≡ found_text l.places (found_from l.places 0 (take l.scope l.places))
