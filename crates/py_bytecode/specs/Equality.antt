-- When two constants and when two code objects are equal: where all that stands in them is.
use Rattle.std.specs.Prelude.{ℕ, Bool, true, false, List, [], ◌∷◌, ◌++◌, ◌&&◌, nat_eq, if◌then◌else◌}
use Rattle.std.specs.Bool.{beq}
use Rattle.std.specs.Cmp.Lexicographic.{pointwise}
use Rattle.std.specs.List.{list_any}
use Rattle.std.specs.Option.{option_eq}
use Rattle.std.specs.Ordering.{int_eq}
use Rattle.py_base.specs.declared.location.SourceLocation.{SourceLocation}
use Rattle.py_bytecode.specs.declared.instruction.Instruction.{Instruction}
use Rattle.py_bytecode.specs.declared.operand.CodeUnit.{CodeUnit}
use Rattle.py_bytecode.specs.contracts.instruction.InstructionPartialEq.TheImpl as instructions
use Rattle.py_bytecode.specs.Objects.{Head, Const, none, boolean, str, bytes, integer, tuple, ellipsis, code, Consts, no_consts, more_consts, Object, object_of}

-- texts, byte by byte
abbrev pub text_eq : List ℕ → List ℕ → Bool
text_eq = pointwise nat_eq

-- instructions, each only to itself
abbrev pub instruction_eq : Instruction → Instruction → Bool
instruction_eq = instructions.ghosts.eq

abbrev pub unit_eq : CodeUnit → CodeUnit → Bool
unit_eq u v = instruction_eq u.op v.op && nat_eq u.arg v.arg

abbrev pub location_eq : SourceLocation → SourceLocation → Bool
location_eq l m = nat_eq l.row m.row && nat_eq l.column m.column

abbrev pub head_eq : Head → Head → Bool
head_eq h k =
    nat_eq h.flags k.flags
    && (nat_eq h.posonlyarg_count k.posonlyarg_count
    && (nat_eq h.arg_count k.arg_count
    && (nat_eq h.kwonlyarg_count k.kwonlyarg_count
    && (text_eq h.source_path k.source_path
    && (option_eq nat_eq h.first_line_number k.first_line_number
    && (text_eq h.obj_name k.obj_name
    && (nat_eq h.max_stackdepth k.max_stackdepth
    && (pointwise unit_eq h.instructions k.instructions
    && (pointwise location_eq h.locations k.locations
    && (pointwise text_eq h.names k.names
    && (pointwise text_eq h.varnames k.varnames
    && (pointwise text_eq h.cellvars k.cellvars
    && (pointwise text_eq h.freevars k.freevars
    && option_eq (pointwise int_eq) h.cell2arg k.cell2arg)))))))))))))

abbrev mutual
  pub const_eq : Const → Const → Bool
  const_eq none none = true
  const_eq (boolean b) (boolean d) = beq b d
  const_eq (str s) (str t) = text_eq s t
  const_eq (bytes s) (bytes t) = pointwise nat_eq s t
  const_eq (integer x) (integer y) = int_eq x y
  const_eq (tuple cs) (tuple ds) = consts_eq cs ds
  const_eq ellipsis ellipsis = true
  const_eq (code o) (code p) = object_eq o p
  const_eq c d = false

  pub consts_eq : Consts → Consts → Bool
  consts_eq no_consts no_consts = true
  consts_eq no_consts (more_consts d ds) = false
  consts_eq (more_consts c cs) no_consts = false
  consts_eq (more_consts c cs) (more_consts d ds) = const_eq c d && consts_eq cs ds

  pub object_eq : Object → Object → Bool
  object_eq (object_of h cs) (object_of k ds) = head_eq h k && consts_eq cs ds

-- the values after one more is entered: an equal one keeps its place, and else it goes last
abbrev pub insert_if_new : {A : Type 0} → (A → A → Bool) → List A → A → List A
insert_if_new equal xs x = if list_any (equal x) xs then xs else xs ++ x ∷ []
