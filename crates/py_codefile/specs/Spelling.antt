-- The one spelling of a code object. Numbers have the highest byte first.
use Rattle.std.specs.Prelude.{ℕ, ℤ, true, false, List, [], ◌∷◌, ◌++◌, length, codes, Option, Some, None}
use Rattle.std.specs.List.{flat_map}
use Rattle.std.specs.Int.{Width, w16, w32, w128, cast_unsigned, to_be_bytes}
use Rattle.py_base.specs.declared.location.SourceLocation.{SourceLocation}
use Rattle.py_bytecode.specs.declared.operand.CodeUnit.{CodeUnit}
use Rattle.py_bytecode.specs.Objects as obj
use Rattle.py_bytecode.specs.Objects.{Head, Const, Consts, Object, const_list}
use Rattle.py_codefile.specs.Opcodes.{opcode}

-- a list: its count, and then its items
abbrev pub list_spelling : {A : Type 0} → (A → List ℕ) → List A → List ℕ
list_spelling item xs = to_be_bytes w32 (length xs) ++ flat_map item xs

-- a text: its length in bytes, and then the bytes
abbrev pub text_spelling : List ℕ → List ℕ
text_spelling t = to_be_bytes w32 (length t) ++ t

abbrev pub byte_spelling : ℕ → List ℕ
byte_spelling b = b ∷ []

-- a number with a sign, as its two's complement
abbrev pub signed_spelling : Width → ℤ → List ℕ
signed_spelling w z = to_be_bytes w (cast_unsigned w z)

abbrev pub unit_spelling : CodeUnit → List ℕ
unit_spelling u = byte_spelling (opcode u.op) ++ byte_spelling u.arg

abbrev pub location_spelling : SourceLocation → List ℕ
location_spelling l = to_be_bytes w32 l.row ++ to_be_bytes w32 l.column

-- the row in which a scope begins, or 0
abbrev pub line_spelling : Option ℕ → List ℕ
line_spelling None = to_be_bytes w32 0
line_spelling (Some n) = to_be_bytes w32 n

-- which parameters the cells are: a byte 0, or a byte 1 and the list
abbrev pub cells_spelling : Option (List ℤ) → List ℕ
cells_spelling None = 0 ∷ []
cells_spelling (Some zs) = 1 ∷ list_spelling (signed_spelling w32) zs

abbrev pub names_spelling : List (List ℕ) → List ℕ
names_spelling = list_spelling text_spelling

-- what stands before the units
abbrev pub heading_spelling : Head → List ℕ
heading_spelling h =
    to_be_bytes w16 h.flags
    ++ (to_be_bytes w32 h.posonlyarg_count
    ++ (to_be_bytes w32 h.arg_count
    ++ (to_be_bytes w32 h.kwonlyarg_count
    ++ (text_spelling h.source_path
    ++ (line_spelling h.first_line_number
    ++ (text_spelling h.obj_name
    ++ to_be_bytes w32 h.max_stackdepth))))))

-- what stands after the constants
abbrev pub tables_spelling : Head → List ℕ
tables_spelling h =
    names_spelling h.names
    ++ (names_spelling h.varnames
    ++ (names_spelling h.cellvars
    ++ (names_spelling h.freevars
    ++ cells_spelling h.cell2arg)))

abbrev mutual
  -- a constant: a byte for its kind, and what follows
  pub const_spelling : Const → List ℕ
  const_spelling obj.none = 0 ∷ []
  const_spelling (obj.boolean false) = 1 ∷ []
  const_spelling (obj.boolean true) = 2 ∷ []
  const_spelling (obj.str t) = 3 ∷ text_spelling t
  const_spelling (obj.bytes bs) = 4 ∷ list_spelling byte_spelling bs
  const_spelling (obj.integer z) = 5 ∷ signed_spelling w128 z
  const_spelling (obj.tuple cs) = 6 ∷ (to_be_bytes w32 (length (const_list cs)) ++ consts_spelling cs)
  const_spelling obj.ellipsis = 7 ∷ []
  const_spelling (obj.code o) = 8 ∷ object_spelling o

  -- constants one after the other
  pub consts_spelling : Consts → List ℕ
  consts_spelling obj.no_consts = []
  consts_spelling (obj.more_consts c cs) = const_spelling c ++ consts_spelling cs

  pub object_spelling : Object → List ℕ
  object_spelling (obj.object_of h cs) =
      heading_spelling h
      ++ (list_spelling unit_spelling h.instructions
      ++ (list_spelling location_spelling h.locations
      ++ ((to_be_bytes w32 (length (const_list cs)) ++ consts_spelling cs)
      ++ tables_spelling h)))

-- what a file begins with: a name and the number of the format
abbrev pub magic : List ℕ
magic = codes "PYCODE" ++ 0 ∷ 1 ∷ []

-- a whole file
abbrev pub file_spelling : Object → List ℕ
file_spelling o = magic ++ object_spelling o
