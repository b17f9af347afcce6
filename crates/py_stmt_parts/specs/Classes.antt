-- What is emitted of the names and the end of a class.
use Rattle.std.specs.Prelude.{ℕ, List, [], ◌∷◌, Bool, codes, if◌then◌else◌}
use Rattle.py_bytecode.specs.declared.instruction.Instruction.TheVariants as op
use Rattle.py_bytecode.specs.Objects.{Const}
use Rattle.py_emission_parts.specs.Children.{load_cell}
use Rattle.py_emission_parts.specs.Emitting.{Emission, ◌▸◌, emit, emit_constant, emit_name}

-- a global name is stored under another
abbrev pub copied_name : (from to : List ℕ) → Emission
copied_name from to = emit_name op.LoadGlobal from ▸ emit_name op.StoreLocal to

-- a constant is stored under a name
abbrev pub stored_as : (name : List ℕ) → Const → Emission
stored_as name c = emit_constant op.LoadConst c ▸ emit_name op.StoreLocal name

-- the cell of `__class__`, where it is kept
abbrev pub cells_kept : Bool → List (List ℕ)
cells_kept kept = if kept then codes "__class__" ∷ [] else []

-- a cell is kept under a name and returned
abbrev pub cell_kept : (cell name : List ℕ) → Emission
cell_kept cell name = load_cell cell ▸ emit op.Duplicate 0 ▸ emit_name op.StoreLocal name ▸ emit op.ReturnValue 0
