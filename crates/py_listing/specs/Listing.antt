-- The text of a code object: a head, its tables, a line for each unit, and then the texts of the codes among its constants.
use Rattle.std.specs.Prelude.{ℕ, zero, suc, ◌+◌, ◌*◌, ◌%◌, ◌^◌, ℤ, List, [], ◌∷◌, ◌++◌, Option, Some, None, codes, decimal, slice_get, if◌then◌else◌}
use Rattle.std.specs.List.{join_by}
use Rattle.std.specs.Fmt.{signed_decimal}
use Rattle.py_base.specs.declared.location.SourceLocation.{SourceLocation}
use Rattle.py_bytecode.specs.declared.operand.CodeUnit.{CodeUnit}
use Rattle.py_bytecode.specs.declared.instruction.OperandKind.{OperandKind}
use Rattle.py_bytecode.specs.declared.instruction.OperandKind.TheVariants as kind
use Rattle.py_bytecode.specs.Objects as obj
use Rattle.py_bytecode.specs.Objects.{Head, Const, Consts, Object}
use Rattle.py_bytecode.specs.Table.{row_of}
use Rattle.py_bytecode.specs.Units.{is_prefix}
use Rattle.py_quote.specs.Plain.{bool_text}
use Rattle.py_quote.specs.Quote.{quote, quote_bytes}

abbrev pub comma : List ℕ
comma = codes ", "

-- what stands before the entry at a place
abbrev pub separator : ℕ → List ℕ
separator zero = []
separator (suc i) = comma

-- a tuple of one element has a comma after it
abbrev pub tuple_end : Consts → List ℕ
tuple_end (obj.more_consts c obj.no_consts) = codes ",)"
tuple_end _ = codes ")"

abbrev pub code_text : Object → List ℕ
code_text (obj.object_of h cs) = codes "<code " ++ quote h.obj_name ++ codes ">"

abbrev mutual
  pub constant_text : Const → List ℕ
  constant_text obj.none = codes "None"
  constant_text (obj.boolean b) = bool_text b
  constant_text (obj.str t) = quote t
  constant_text (obj.bytes bs) = quote_bytes bs
  constant_text (obj.integer z) = signed_decimal z
  constant_text (obj.tuple cs) = codes "(" ++ joined_constants cs ++ tuple_end cs
  constant_text obj.ellipsis = codes "Ellipsis"
  constant_text (obj.code o) = code_text o

  -- joined by commas
  pub joined_constants : Consts → List ℕ
  joined_constants obj.no_consts = []
  joined_constants (obj.more_consts c cs) = constant_text c ++ after_comma cs

  -- each after a comma
  pub after_comma : Consts → List ℕ
  after_comma obj.no_consts = []
  after_comma (obj.more_consts c cs) = comma ++ constant_text c ++ after_comma cs

abbrev pub line_number : Option ℕ → List ℕ
line_number None = codes "-"
line_number (Some n) = decimal n

unfoldable pub head_line : Head → List ℕ
head_line h =
    codes "code " ++ quote h.obj_name ++ codes " from " ++ quote h.source_path ++ codes " line " ++ line_number h.first_line_number
    ++ codes " flags " ++ decimal h.flags ++ codes " args " ++ decimal h.posonlyarg_count ++ codes " " ++ decimal h.arg_count
    ++ codes " " ++ decimal h.kwonlyarg_count ++ codes " depth " ++ decimal h.max_stackdepth ++ codes "\n"

-- a table has no line where it is empty
unfoldable pub constants_line : Consts → List ℕ
constants_line obj.no_consts = []
constants_line (obj.more_consts c cs) = codes "constants: " ++ joined_constants (obj.more_consts c cs) ++ codes "\n"

unfoldable pub names_line : (word : List ℕ) → List (List ℕ) → List ℕ
names_line word [] = []
names_line word (n ∷ ns) = word ++ join_by quote comma (n ∷ ns) ++ codes "\n"

unfoldable pub cells_line : Option (List ℤ) → List ℕ
cells_line None = []
cells_line (Some zs) = codes "cell2arg: " ++ join_by signed_decimal comma zs ++ codes "\n"

-- names of enumerated cases
abbrev pub case_names : OperandKind → List (List ℕ)
case_names kind.Unary = codes "Plus" ∷ codes "Minus" ∷ codes "Not" ∷ codes "Invert" ∷ []
case_names kind.Binary = codes "Add" ∷ codes "Subtract" ∷ codes "Multiply" ∷ codes "MatrixMultiply" ∷ codes "Divide" ∷ codes "FloorDivide" ∷ codes "Modulo" ∷ codes "Power" ∷ codes "Lshift" ∷ codes "Rshift" ∷ codes "Or" ∷ codes "Xor" ∷ codes "And" ∷ []
case_names kind.Compare = codes "Less" ∷ codes "Greater" ∷ codes "NotEqual" ∷ codes "Equal" ∷ codes "LessOrEqual" ∷ codes "GreaterOrEqual" ∷ []
case_names kind.Test = codes "In" ∷ codes "NotIn" ∷ codes "Is" ∷ codes "IsNot" ∷ codes "ExceptionMatch" ∷ []
case_names kind.RaiseKind = codes "Raise" ∷ codes "RaiseCause" ∷ codes "Reraise" ∷ []
case_names kind.Conversion = codes "None" ∷ codes "Str" ∷ codes "Ascii" ∷ codes "Repr" ∷ []
case_names _ = []

-- an entry of a table, or a question mark
abbrev pub entry : {A : Type 0} → (A → List ℕ) → Option A → List ℕ
entry text None = codes " ?"
entry text (Some x) = codes " " ++ text x

-- the name of a case, after a space; nothing where the kind has no cases
abbrev pub case_text : OperandKind → ℕ → List ℕ
case_text kind.Unary n = entry (λ t. t) (slice_get (case_names kind.Unary) n)
case_text kind.Binary n = entry (λ t. t) (slice_get (case_names kind.Binary) n)
case_text kind.Compare n = entry (λ t. t) (slice_get (case_names kind.Compare) n)
case_text kind.Test n = entry (λ t. t) (slice_get (case_names kind.Test) n)
case_text kind.RaiseKind n = entry (λ t. t) (slice_get (case_names kind.RaiseKind) n)
case_text kind.Conversion n = entry (λ t. t) (slice_get (case_names kind.Conversion) n)
case_text _ n = []

-- what a whole operand names, after a space
abbrev pub detail : Object → OperandKind → ℕ → List ℕ
detail o kind.None n = []
detail o kind.Const n = entry constant_text (slice_get (obj.constants o) n)
detail o kind.Name n = entry quote (slice_get (obj.head o).names n)
detail o kind.Var n = entry quote (slice_get (obj.head o).varnames n)
detail o kind.Cell n = entry quote (slice_get ((obj.head o).cellvars ++ (obj.head o).freevars) n)
detail o kind.Label n = codes " to " ++ decimal n
detail o kind.Count n = []
detail o kind.Flags n = []
detail o kind.Pair n = []
detail o kind.Bit n = []
detail o kind.Unary n = entry (λ t. t) (slice_get (case_names kind.Unary) n)
detail o kind.Binary n = entry (λ t. t) (slice_get (case_names kind.Binary) n)
detail o kind.Compare n = entry (λ t. t) (slice_get (case_names kind.Compare) n)
detail o kind.Test n = entry (λ t. t) (slice_get (case_names kind.Test) n)
detail o kind.RaiseKind n = entry (λ t. t) (slice_get (case_names kind.RaiseKind) n)
detail o kind.Conversion n = entry (λ t. t) (slice_get (case_names kind.Conversion) n)

-- the unit's own byte, where there is an operand
abbrev pub byte_text : OperandKind → ℕ → List ℕ
byte_text kind.None b = []
byte_text _ b = codes " " ++ decimal b

abbrev pub place_text : Option SourceLocation → List ℕ
place_text None = codes "-:-"
place_text (Some l) = decimal l.row ++ codes ":" ++ decimal l.column

unfoldable pub unit_line : Object → (at whole : ℕ) → CodeUnit → List ℕ
unit_line o at whole u =
    decimal at ++ codes " " ++ place_text (slice_get (obj.head o).locations at) ++ codes " " ++ (row_of u.op).name
    ++ byte_text (row_of u.op).kind u.arg ++ detail o (row_of u.op).kind whole ++ codes "\n"

-- the operand up to a unit, after prefixes that hold so much; the last four bytes count
abbrev pub whole_operand : (high : ℕ) → CodeUnit → ℕ
whole_operand high u = (high * 256 + u.arg) % 2 ^ 32

-- what the next unit's operand begins with
abbrev pub carried_operand : (high : ℕ) → CodeUnit → ℕ
carried_operand high u = if is_prefix u.op then whole_operand high u else 0

abbrev pub unit_lines : Object → (at high : ℕ) → List CodeUnit → List ℕ
unit_lines o at high [] = []
unit_lines o at high (u ∷ us) = unit_line o at (whole_operand high u) u ++ unit_lines o (suc at) (carried_operand high u) us

-- without the codes among the constants
abbrev pub own_lines : Head → Consts → List ℕ
own_lines h cs =
    head_line h ++ constants_line cs ++ names_line (codes "names: ") h.names ++ names_line (codes "varnames: ") h.varnames
    ++ names_line (codes "cells: ") h.cellvars ++ names_line (codes "free: ") h.freevars ++ cells_line h.cell2arg
    ++ unit_lines (obj.object_of h cs) 0 0 h.instructions

abbrev mutual
  pub listing : Object → List ℕ
  listing (obj.object_of h cs) = own_lines h cs ++ listings cs

  pub listings : Consts → List ℕ
  listings obj.no_consts = []
  listings (obj.more_consts c cs) = listing_in c ++ listings cs

  pub listing_in : Const → List ℕ
  listing_in (obj.code o) = listing o
  listing_in _ = []
