-- What is asked of a code object itself: conditions in order, each with the fault that there is where it is not met.
use Rattle.std.specs.Prelude.{ℕ, zero, suc, ◌+◌, ◌%◌, List, [], ◌∷◌, length, Bool, true, false, not, ◌&&◌, ◌||◌, Option, None, Some, slice_get, nat_lt, nat_le, ◌==◌, if◌then◌else◌}
use Rattle.std.specs.Option.{option_map}
use Rattle.py_bytecode.specs.declared.instruction.Instruction.{Instruction}
use Rattle.py_bytecode.specs.declared.instruction.Instruction.TheVariants as op
use Rattle.py_bytecode.specs.Objects as obj
use Rattle.py_bytecode.specs.Objects.{Const, Head, head}
use Rattle.py_verify.specs.Nested.{path_place}
use Rattle.py_well_formed.specs.declared.fault.FormFaultKind.{FormFaultKind}
use Rattle.py_well_formed.specs.declared.fault.FormFaultKind.TheVariants as fault
use Rattle.py_well_formed.specs.declared.fault.FormSpot.{FormSpot}
use Rattle.py_well_formed.specs.declared.lines.Line.{Line}
use Rattle.py_well_formed.specs.Lines.{before, lines_of}
use Rattle.py_well_formed.specs.Tables.{are_entries, has_entries, has_flag, parameters, repeats, shares}

pub record Condition : Type 0 where
  pub met : Bool
  pub otherwise : FormFaultKind

abbrev pub condition : Bool → FormFaultKind → Condition
condition met otherwise = record { met = met; otherwise = otherwise }

abbrev pub first_unmet : List Condition → Option FormFaultKind
first_unmet [] = None
first_unmet (c ∷ cs) = if c.met then first_unmet cs else Some c.otherwise

abbrev pub first_of : {A : Type 0} → Option A → Option A → Option A
first_of None later = later
first_of (Some x) later = Some x

-- of parameters and locations
abbrev pub parameter_conditions : Head → List Condition
parameter_conditions h =
    condition (nat_le h.posonlyarg_count h.arg_count) fault.PositionalOnly
    ∷ condition (nat_le (parameters h) (length h.varnames)) fault.FewLocals
    ∷ condition (length h.locations == length h.instructions) fault.Locations
    ∷ []

-- of cells and free names
abbrev pub cell_conditions : Head → List Condition
cell_conditions h =
    condition (has_entries (length h.cellvars) h.cell2arg) fault.CellEntries
    ∷ condition (are_entries (parameters h) h.cell2arg) fault.CellEntry
    ∷ condition (not (repeats h.cellvars)) fault.RepeatedCell
    ∷ condition (not (repeats h.freevars)) fault.RepeatedFree
    ∷ condition (not (shares h.cellvars h.freevars)) fault.CellIsFree
    ∷ []

-- of the tables of the code
abbrev pub table_fault : Head → Option FormFaultKind
table_fault h = first_of (first_unmet (parameter_conditions h)) (first_unmet (cell_conditions h))

-- an access of a local name by its place
abbrev pub is_quick : Instruction → Bool
is_quick op.LoadFast = true
is_quick op.StoreFast = true
is_quick op.DeleteFast = true
is_quick _ = false

abbrev pub is_yield : Instruction → Bool
is_yield op.YieldValue = true
is_yield op.YieldFrom = true
is_yield _ = false

abbrev pub makes_function : Instruction → Bool
makes_function op.MakeFunction = true
makes_function _ = false

-- how many free names a constant has, where it is a code
abbrev pub free_count : Option Const → Option ℕ
free_count (Some (obj.code o)) = Some (length (head o).freevars)
free_count other = None

abbrev pub is_text : Option Const → Bool
is_text (Some (obj.str t)) = true
is_text other = false

-- the constant that an instruction loads
abbrev pub loaded_by : List Const → Instruction → (operand : ℕ) → Option Const
loaded_by cs op.LoadConst operand = slice_get cs operand
loaded_by cs _ operand = None

abbrev pub loaded_const : List Const → Option Line → Option Const
loaded_const cs None = None
loaded_const cs (Some line) = loaded_by cs line.op line.operand

-- an instruction that builds a tuple of so many values
abbrev pub builds_by : Instruction → (operand count : ℕ) → Bool
builds_by op.BuildTuple operand count = operand == count
builds_by _ operand count = false

abbrev pub builds : Option Line → (count : ℕ) → Bool
builds None count = false
builds (Some line) count = builds_by line.op line.operand count

-- an instruction that loads one of so many cells and free names
abbrev pub loads_by : Instruction → (operand cells : ℕ) → Bool
loads_by op.LoadClosure operand cells = nat_lt operand cells
loads_by _ operand cells = false

abbrev pub loads_cell : Option Line → (cells : ℕ) → Bool
loads_cell None cells = false
loads_cell (Some line) cells = loads_by line.op line.operand cells

-- the lines before the tuple load so many cells
abbrev pub loads_cells : List Line → (i cells count : ℕ) → Bool
loads_cells lines i cells zero = true
loads_cells lines i cells (suc n) = loads_cells lines i cells n && loads_cell (before lines i (n + 4)) cells

-- the tuple built just before the code is loaded has so many cells
abbrev pub has_closure : Head → List Line → (i count : ℕ) → Bool
has_closure h lines i count = builds (before lines i 3) count && loads_cells lines i (length h.cellvars + length h.freevars) count

-- of a function that is made with these flags, of a code with so many free names
abbrev pub closure_conditions : Head → List Line → (i flags : ℕ) → Option ℕ → List Condition
closure_conditions h lines i flags None = condition false fault.MadeOfNoCode ∷ []
closure_conditions h lines i flags (Some count) =
    condition (flags % 2 == 1 || count == 0) fault.NoClosure
    ∷ condition (flags % 2 == 0 || has_closure h lines i count) fault.Closure
    ∷ []

-- of an instruction that makes a function: the code and then its name are loaded just before
abbrev pub function_conditions : Head → List Const → List Line → (i flags : ℕ) → List Condition
function_conditions h cs lines i flags =
    condition (is_text (loaded_const cs (before lines i 1))) fault.MadeOfNoCode
    ∷ closure_conditions h lines i flags (free_count (loaded_const cs (before lines i 2)))

-- of the instruction in a line
abbrev pub line_conditions : Head → List Const → List Line → (i : ℕ) → Line → List Condition
line_conditions h cs lines i line =
    condition (not (is_quick line.op) || has_flag h.flags 0x20) fault.QuickLocal
    ∷ condition (not (is_yield line.op) || has_flag h.flags 0x02) fault.Yield
    ∷ (if makes_function line.op then function_conditions h cs lines i line.operand else [])

abbrev pub at_whole : FormFaultKind → FormSpot
at_whole kind = record { unit = None; kind = kind }

abbrev pub at_unit : (unit : ℕ) → FormFaultKind → FormSpot
at_unit unit kind = record { unit = Some (path_place unit); kind = kind }

-- the first fault in lines, of which so many went before
abbrev pub line_fault : Head → List Const → List Line → (i : ℕ) → List Line → Option FormSpot
line_fault h cs lines i [] = None
line_fault h cs lines i (line ∷ rest) = first_of (option_map (at_unit line.unit) (first_unmet (line_conditions h cs lines i line))) (line_fault h cs lines (suc i) rest)

abbrev pub unit_fault : Head → List Const → Option FormSpot
unit_fault h cs = let lines = lines_of h.instructions in line_fault h cs lines 0 lines

-- the first fault of a code itself
abbrev pub own_fault : Head → List Const → Option FormSpot
own_fault h cs = first_of (option_map at_whole (table_fault h)) (unit_fault h cs)
