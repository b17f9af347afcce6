-- The operators that rows name.
use Rattle.std.specs.Prelude.{ℕ, List, [], ◌∷◌, Option, Some, None, option_and_then, Result, Ok, if◌then◌else◌, codes}
use Rattle.std.specs.Str.{bytes_eq}
use Rattle.serde_json.specs.Data.{Data, Items, no_items, item}
use Rattle.serde_json.specs.Find.{as_str}
use Rattle.py_base.specs.declared.operators.BoolOp.{BoolOp}
use Rattle.py_base.specs.declared.operators.BoolOp.TheVariants as joining
use Rattle.py_base.specs.declared.operators.Operator.{Operator}
use Rattle.py_base.specs.declared.operators.Operator.TheVariants as operator
use Rattle.py_base.specs.declared.operators.UnaryOp.{UnaryOp}
use Rattle.py_base.specs.declared.operators.UnaryOp.TheVariants as unary
use Rattle.py_base.specs.declared.operators.CmpOp.{CmpOp}
use Rattle.py_base.specs.declared.operators.CmpOp.TheVariants as comparing
use Rattle.py_base.specs.declared.operators.ConversionFlag.{ConversionFlag}
use Rattle.py_base.specs.declared.operators.ConversionFlag.TheVariants as converting
use Rattle.py_rows_fields.specs.declared.error.RowsError.{RowsError}
use Rattle.py_rows_fields.specs.declared.error.RowsError.TheVariants.{WrongRow}
use Rattle.py_rows_fields.specs.Fields.{entries_at}
use Rattle.py_rows_fields.specs.Gives.{or_fault, ◌>>=◌}

abbrev pub bool_operator_of : List ℕ → Option BoolOp
bool_operator_of word =
    if bytes_eq word (codes "And") then Some joining.And else
    (if bytes_eq word (codes "Or") then Some joining.Or else None)

abbrev pub bool_operator_at : ℕ → Data → Result BoolOp RowsError
bool_operator_at n d = or_fault (WrongRow n) (option_and_then bool_operator_of (as_str d))

abbrev pub operator_of : List ℕ → Option Operator
operator_of word =
    if bytes_eq word (codes "Add") then Some operator.Add else
    (if bytes_eq word (codes "Sub") then Some operator.Sub else
    (if bytes_eq word (codes "Mult") then Some operator.Mult else
    (if bytes_eq word (codes "MatMult") then Some operator.MatMult else
    (if bytes_eq word (codes "Div") then Some operator.Div else
    (if bytes_eq word (codes "FloorDiv") then Some operator.FloorDiv else
    (if bytes_eq word (codes "Mod") then Some operator.Mod else
    (if bytes_eq word (codes "Pow") then Some operator.Pow else
    (if bytes_eq word (codes "LShift") then Some operator.LShift else
    (if bytes_eq word (codes "RShift") then Some operator.RShift else
    (if bytes_eq word (codes "BitOr") then Some operator.BitOr else
    (if bytes_eq word (codes "BitXor") then Some operator.BitXor else
    (if bytes_eq word (codes "BitAnd") then Some operator.BitAnd else None))))))))))))

abbrev pub operator_at : ℕ → Data → Result Operator RowsError
operator_at n d = or_fault (WrongRow n) (option_and_then operator_of (as_str d))

abbrev pub unary_operator_of : List ℕ → Option UnaryOp
unary_operator_of word =
    if bytes_eq word (codes "Invert") then Some unary.Invert else
    (if bytes_eq word (codes "Not") then Some unary.Not else
    (if bytes_eq word (codes "UAdd") then Some unary.UAdd else
    (if bytes_eq word (codes "USub") then Some unary.USub else None)))

abbrev pub unary_operator_at : ℕ → Data → Result UnaryOp RowsError
unary_operator_at n d = or_fault (WrongRow n) (option_and_then unary_operator_of (as_str d))

abbrev pub comparison_of : List ℕ → Option CmpOp
comparison_of word =
    if bytes_eq word (codes "Eq") then Some comparing.Eq else
    (if bytes_eq word (codes "NotEq") then Some comparing.NotEq else
    (if bytes_eq word (codes "Lt") then Some comparing.Lt else
    (if bytes_eq word (codes "LtE") then Some comparing.LtE else
    (if bytes_eq word (codes "Gt") then Some comparing.Gt else
    (if bytes_eq word (codes "GtE") then Some comparing.GtE else
    (if bytes_eq word (codes "Is") then Some comparing.Is else
    (if bytes_eq word (codes "IsNot") then Some comparing.IsNot else
    (if bytes_eq word (codes "In") then Some comparing.In else
    (if bytes_eq word (codes "NotIn") then Some comparing.NotIn else None)))))))))

abbrev pub comparison_at : ℕ → Data → Result CmpOp RowsError
comparison_at n d = or_fault (WrongRow n) (option_and_then comparison_of (as_str d))

abbrev pub comparisons_in : ℕ → Items → Result (List CmpOp) RowsError
comparisons_in n no_items = Ok []
comparisons_in n (item d ds) = comparison_at n d >>= λ o. comparisons_in n ds >>= λ os. Ok (o ∷ os)

-- the operators of a comparison, in their order
abbrev pub comparisons_at : ℕ → Data → Result (List CmpOp) RowsError
comparisons_at n d = entries_at n d >>= comparisons_in n

abbrev pub conversion_of : List ℕ → Option ConversionFlag
conversion_of word =
    if bytes_eq word (codes "None") then Some converting.None else
    (if bytes_eq word (codes "Str") then Some converting.Str else
    (if bytes_eq word (codes "Ascii") then Some converting.Ascii else
    (if bytes_eq word (codes "Repr") then Some converting.Repr else None)))

abbrev pub conversion_at : ℕ → Data → Result ConversionFlag RowsError
conversion_at n d = or_fault (WrongRow n) (option_and_then conversion_of (as_str d))
