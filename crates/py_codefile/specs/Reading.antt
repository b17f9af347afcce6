-- What reading gives at each place, field by field, with the first bad field.
use Rattle.std.specs.Prelude.{ℕ, ℤ, zero, suc, ◌+◌, ◌==◌, true, false, List, [], ◌∷◌, length, take, drop, nat_lt, Option, Some, None, Result, Ok, Err, slice_get, if◌then◌else◌}
use Rattle.std.specs.Cmp.Lexicographic.{pointwise}
use Rattle.std.specs.Prelude.{nat_eq}
use Rattle.std.specs.Int.{Width, w16, w32, w128, byte_len, cast_signed, from_be_bytes}
use Rattle.std.specs.Str.{is_utf8}
use Rattle.py_base.specs.declared.location.SourceLocation.{SourceLocation}
use Rattle.py_bytecode.specs.declared.instruction.Instruction.{Instruction}
use Rattle.py_bytecode.specs.declared.operand.CodeUnit.{CodeUnit}
use Rattle.py_bytecode.specs.Objects as obj
use Rattle.py_bytecode.specs.Objects.{Const, Object, consts_of}
use Rattle.py_codefile.specs.declared.error.ReadCodeError.{ReadCodeError}
use Rattle.py_codefile.specs.declared.error.ReadCodeError.TheVariants.{Magic, Truncated, BadOpcode, BadTag, BadText, ZeroLocation, TooDeep, Trailing}
use Rattle.py_codefile.specs.declared.tags.Tag.{Tag}
use Rattle.py_codefile.specs.declared.tags.Tag.TheVariants as tag
use Rattle.py_codefile.specs.Opcodes.{instructions}
use Rattle.py_codefile.specs.Tags.{tags}
use Rattle.py_codefile.specs.Spelling.{magic}
use Rattle.py_codefile.specs.Places.{Place, Read, Reading, ◌>>=◌, both, map_reading, or_fault}

-- ---- numbers and texts

-- a field of k bytes
unfoldable pub block_at : ℕ → Reading (List ℕ)
block_at k p =
    if nat_lt (length p.bytes) k then Err (Truncated p.at)
    else Ok (take k p.bytes, record { at = p.at + k; bytes = drop k p.bytes })

unfoldable pub byte_at : Reading ℕ
byte_at p = first p.at p.bytes
  where
    first : ℕ → List ℕ → Read ℕ
    first at [] = Err (Truncated at)
    first at (b ∷ bytes) = Ok (b, record { at = at + 1; bytes = bytes })

unfoldable pub number_at : Width → Reading ℕ
number_at w = map_reading (from_be_bytes w) (block_at (byte_len w))

unfoldable pub signed_at : Width → Reading ℤ
signed_at w = map_reading (cast_signed w) (number_at w)

unfoldable pub text_at : Reading (List ℕ)
text_at p = do
  n ← number_at w32 p
  t ← block_at n.0 n.1
  if is_utf8 t.0 then Ok t else Err (BadText n.1.at)

-- ---- lists

-- so many items, one after the other
unfoldable pub many : {A : Type 0} → Reading A → ℕ → Reading (List A)
many item zero p = Ok ([], p)
many item (suc n) p = do
  x ← item p
  xs ← many item n x.1
  Ok (x.0 ∷ xs.0, xs.1)

unfoldable pub list_at : {A : Type 0} → Reading A → Reading (List A)
list_at item p = do
  n ← number_at w32 p
  many item n.0 n.1

unfoldable pub names_at : Reading (List (List ℕ))
names_at = list_at text_at

-- ---- units, places and cells

unfoldable pub opcode_at : Reading Instruction
opcode_at p = do
  n ← byte_at p
  op ← or_fault (BadOpcode p.at) (slice_get instructions n.0)
  Ok (op, n.1)

unfoldable pub unit_at : Reading CodeUnit
unit_at = map_reading (λ u. record { op = u.0; arg = u.1 }) (both opcode_at byte_at)

-- a row or a column
unfoldable pub positive_at : Reading ℕ
positive_at p = do
  n ← number_at w32 p
  if n.0 == 0 then Err (ZeroLocation p.at) else Ok n

unfoldable pub location_at : Reading SourceLocation
location_at = map_reading (λ l. record { row = l.0; column = l.1 }) (both positive_at positive_at)

-- the row in which a scope begins; 0 is none
abbrev pub line_of : ℕ → Option ℕ
line_of n = if n == 0 then None else Some n

unfoldable pub line_at : Reading (Option ℕ)
line_at = map_reading line_of (number_at w32)

-- what follows the byte that stands at an offset and says whether there is a list
unfoldable pub after_cells_byte : ℕ → ℕ → Reading (Option (List ℤ))
after_cells_byte at zero p = Ok (None, p)
after_cells_byte at (suc zero) p = map_reading Some (list_at (signed_at w32)) p
after_cells_byte at (suc (suc b)) p = Err (BadTag at)

unfoldable pub cells_at : Reading (Option (List ℤ))
cells_at p = do
  b ← byte_at p
  after_cells_byte p.at b.0 b.1

-- ---- codes and constants

abbrev pub HeadingParts : Type 0
HeadingParts = ℕ × (ℕ × (ℕ × (ℕ × (List ℕ × (Option ℕ × (List ℕ × ℕ))))))

-- what stands before the units: flags, counts of parameters, path, row, name, depth
unfoldable pub heading_at : Reading HeadingParts
heading_at =
    both (number_at w16) (both (number_at w32) (both (number_at w32) (both (number_at w32)
    (both text_at (both line_at (both text_at (number_at w32)))))))

abbrev pub TablesParts : Type 0
TablesParts = List (List ℕ) × (List (List ℕ) × (List (List ℕ) × (List (List ℕ) × Option (List ℤ))))

-- what stands after the constants: names, variables, cells, free names, and which parameters the cells are
unfoldable pub tables_at : Reading TablesParts
tables_at = both names_at (both names_at (both names_at (both names_at cells_at)))

abbrev pub Parts : Type 0
Parts = HeadingParts × (List CodeUnit × (List SourceLocation × (List Const × TablesParts)))

abbrev pub object_of : Parts → Object
object_of p =
    let h = p.0 in
    let t = p.1.1.1.1 in
    obj.object_of (record {
      flags = h.0;
      posonlyarg_count = h.1.0;
      arg_count = h.1.1.0;
      kwonlyarg_count = h.1.1.1.0;
      source_path = h.1.1.1.1.0;
      first_line_number = h.1.1.1.1.1.0;
      obj_name = h.1.1.1.1.1.1.0;
      max_stackdepth = h.1.1.1.1.1.1.1;
      instructions = p.1.0;
      locations = p.1.1.0;
      names = t.0;
      varnames = t.1.0;
      cellvars = t.1.1.0;
      freevars = t.1.1.1.0;
      cell2arg = t.1.1.1.1;
    }) (consts_of p.1.1.1.0)

-- a code whose constants are read so
unfoldable pub code_at : Reading Const → Reading Object
code_at constant =
    map_reading object_of (both heading_at (both (list_at unit_at) (both (list_at location_at) (both (list_at constant) tables_at))))

-- which kind of constant follows
unfoldable pub tag_at : Reading Tag
tag_at p = do
  n ← byte_at p
  t ← or_fault (BadTag p.at) (slice_get tags n.0)
  Ok (t, n.1)

-- a tuple whose items are read so; None where it would nest too deep
unfoldable pub tuple_at : ℕ → Option (Reading Const) → Reading Const
tuple_at at None p = Err (TooDeep at)
tuple_at at (Some within) p = map_reading (λ cs. obj.tuple (consts_of cs)) (list_at within) p

unfoldable pub inner_code_at : ℕ → Option (Reading Const) → Reading Const
inner_code_at at None p = Err (TooDeep at)
inner_code_at at (Some within) p = map_reading obj.code (code_at within) p

-- what follows the byte of a constant, which stands at an offset
unfoldable pub after_tag : ℕ → Option (Reading Const) → Tag → Reading Const
after_tag at within tag.None p = Ok (obj.none, p)
after_tag at within tag.False p = Ok (obj.boolean false, p)
after_tag at within tag.True p = Ok (obj.boolean true, p)
after_tag at within tag.Str p = map_reading obj.str text_at p
after_tag at within tag.Bytes p = map_reading obj.bytes (list_at byte_at) p
after_tag at within tag.Integer p = map_reading obj.integer (signed_at w128) p
after_tag at within tag.Tuple p = tuple_at at within p
after_tag at within tag.Ellipsis p = Ok (obj.ellipsis, p)
after_tag at within tag.Code p = inner_code_at at within p

unfoldable pub constant_with : Option (Reading Const) → Reading Const
constant_with within p = do
  t ← tag_at p
  after_tag p.at within t.0 t.1

-- a constant in which codes and tuples may nest so deep
unfoldable pub constant_at : ℕ → Reading Const
constant_at zero = constant_with None
constant_at (suc room) = constant_with (Some (constant_at room))

-- how the nested constants are read, where there is room for them
abbrev pub within : ℕ → Option (Reading Const)
within zero = None
within (suc room) = Some (constant_at room)

-- ---- files

-- the bytes that a file begins with
unfoldable pub magic_at : Place → Result Place ReadCodeError
magic_at p = do
  b ← block_at 8 p
  if pointwise nat_eq b.0 magic then Ok b.1 else Err (Magic p.at)

-- the outermost code counts one, so those within may nest 2 ^ 11 - 2 deep
unfoldable pub file_at : List ℕ → Result Object ReadCodeError
file_at bytes = do
  p ← magic_at (record { at = 0; bytes = bytes })
  o ← code_at (constant_at 2046) p
  if length o.1.bytes == 0 then Ok o.0 else Err (Trailing o.1.at)
