-- Constants and code objects as definitions see them: no pointers, and lists of their own.
use Rattle.std.specs.Prelude.{ℕ, ℤ, Bool, List, [], ◌∷◌, Option}
use Rattle.py_base.specs.declared.location.SourceLocation.{SourceLocation}
use Rattle.py_bytecode.specs.declared.operand.CodeUnit.{CodeUnit}

-- all of a code object but its constants; flags as the sum of their bits
pub record Head : Type 0 where
  pub flags : ℕ
  pub posonlyarg_count : ℕ
  pub arg_count : ℕ
  pub kwonlyarg_count : ℕ
  pub source_path : List ℕ
  pub first_line_number : Option ℕ
  pub obj_name : List ℕ
  pub max_stackdepth : ℕ
  pub instructions : List CodeUnit
  pub locations : List SourceLocation
  pub names : List (List ℕ)
  pub varnames : List (List ℕ)
  pub cellvars : List (List ℕ)
  pub freevars : List (List ℕ)
  pub cell2arg : Option (List ℤ)

mutual
  pub data Const : Type 0 where
    none : Const
    boolean : Bool → Const
    str : List ℕ → Const
    bytes : List ℕ → Const
    integer : ℤ → Const
    tuple : Consts → Const
    ellipsis : Const
    code : Object → Const

  pub data Consts : Type 0 where
    no_consts : Consts
    more_consts : Const → Consts → Consts

  pub data Object : Type 0 where
    object_of : Head → Consts → Object

abbrev pub head : Object → Head
head (object_of h cs) = h

abbrev pub const_list : Consts → List Const
const_list no_consts = []
const_list (more_consts c cs) = c ∷ const_list cs

abbrev pub consts_of : List Const → Consts
consts_of [] = no_consts
consts_of (c ∷ cs) = more_consts c (consts_of cs)

abbrev pub constants : Object → List Const
constants (object_of h cs) = const_list cs

-- the code objects that stand directly among constants
abbrev pub codes_in : List Const → List Object
codes_in [] = []
codes_in (none ∷ cs) = codes_in cs
codes_in (boolean b ∷ cs) = codes_in cs
codes_in (str t ∷ cs) = codes_in cs
codes_in (bytes bs ∷ cs) = codes_in cs
codes_in (integer z ∷ cs) = codes_in cs
codes_in (tuple ds ∷ cs) = codes_in cs
codes_in (ellipsis ∷ cs) = codes_in cs
codes_in (code o ∷ cs) = o ∷ codes_in cs
