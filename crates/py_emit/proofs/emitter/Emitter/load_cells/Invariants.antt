use Rattle.std.proofs.Common.{◌≡◌, drop}
use Rattle.py_emission_parts.specs.Children.{cell_loads}
use Rattle.py_emission_parts.specs.EmissionParts.{in_turn}
use Rattle.py_emission_parts.specs.Running.{run}
use Rattle.py_emit.specs.States.{rest, state}
use Rattle.py_emit.proofs.emitter.Emitter.load_cells.Given as goal

abbrev pub invariant-loop-name : goal.invariant-loop-name
invariant-loop-name l = (rest l.self ≡ rest l.initial.self) × (run (in_turn (cell_loads l.names)) (state l.initial.self) ≡ run (in_turn (cell_loads (drop l.name-index l.names))) (state l.self))
