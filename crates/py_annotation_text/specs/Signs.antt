-- How operators are written, and how closely they bind: a higher level binds closer.
use Rattle.std.specs.Prelude.{ℕ, List, codes}
use Rattle.py_base.specs.declared.operators.BoolOp.{BoolOp}
use Rattle.py_base.specs.declared.operators.BoolOp.TheVariants as boolean
use Rattle.py_base.specs.declared.operators.Operator.{Operator}
use Rattle.py_base.specs.declared.operators.Operator.TheVariants as binary
use Rattle.py_base.specs.declared.operators.UnaryOp.{UnaryOp}
use Rattle.py_base.specs.declared.operators.UnaryOp.TheVariants as unary
use Rattle.py_base.specs.declared.operators.CmpOp.{CmpOp}
use Rattle.py_base.specs.declared.operators.CmpOp.TheVariants as comparison

abbrev pub bool_word : BoolOp → List ℕ
bool_word boolean.And = codes " and "
bool_word boolean.Or = codes " or "

abbrev pub bool_level : BoolOp → ℕ
bool_level boolean.Or = 3
bool_level boolean.And = 4

abbrev pub unary_sign : UnaryOp → List ℕ
unary_sign unary.Not = codes "not "
unary_sign unary.UAdd = codes "+"
unary_sign unary.USub = codes "-"
unary_sign unary.Invert = codes "~"

abbrev pub unary_level : UnaryOp → ℕ
unary_level unary.Not = 5
unary_level unary.UAdd = 13
unary_level unary.USub = 13
unary_level unary.Invert = 13

abbrev pub comparison_sign : CmpOp → List ℕ
comparison_sign comparison.Eq = codes " == "
comparison_sign comparison.NotEq = codes " != "
comparison_sign comparison.Lt = codes " < "
comparison_sign comparison.LtE = codes " <= "
comparison_sign comparison.Gt = codes " > "
comparison_sign comparison.GtE = codes " >= "
comparison_sign comparison.Is = codes " is "
comparison_sign comparison.IsNot = codes " is not "
comparison_sign comparison.In = codes " in "
comparison_sign comparison.NotIn = codes " not in "

abbrev pub binary_sign : Operator → List ℕ
binary_sign binary.Add = codes " + "
binary_sign binary.Sub = codes " - "
binary_sign binary.Mult = codes " * "
binary_sign binary.MatMult = codes " @ "
binary_sign binary.Div = codes " / "
binary_sign binary.FloorDiv = codes " // "
binary_sign binary.Mod = codes " % "
binary_sign binary.Pow = codes " ** "
binary_sign binary.LShift = codes " << "
binary_sign binary.RShift = codes " >> "
binary_sign binary.BitOr = codes " | "
binary_sign binary.BitXor = codes " ^ "
binary_sign binary.BitAnd = codes " & "

abbrev pub binary_level : Operator → ℕ
binary_level binary.BitOr = 7
binary_level binary.BitXor = 8
binary_level binary.BitAnd = 9
binary_level binary.LShift = 10
binary_level binary.RShift = 10
binary_level binary.Add = 11
binary_level binary.Sub = 11
binary_level binary.Mult = 12
binary_level binary.MatMult = 12
binary_level binary.Div = 12
binary_level binary.FloorDiv = 12
binary_level binary.Mod = 12
binary_level binary.Pow = 14

-- the level that the left operand is to have: that of the operator, which groups to the left, but `**` groups to the right
abbrev pub left_level : Operator → ℕ
left_level binary.BitOr = 7
left_level binary.BitXor = 8
left_level binary.BitAnd = 9
left_level binary.LShift = 10
left_level binary.RShift = 10
left_level binary.Add = 11
left_level binary.Sub = 11
left_level binary.Mult = 12
left_level binary.MatMult = 12
left_level binary.Div = 12
left_level binary.FloorDiv = 12
left_level binary.Mod = 12
left_level binary.Pow = 15

-- that of the right operand: one above the operator's, and of `**` a sign may stand there
abbrev pub right_level : Operator → ℕ
right_level binary.BitOr = 8
right_level binary.BitXor = 9
right_level binary.BitAnd = 10
right_level binary.LShift = 11
right_level binary.RShift = 11
right_level binary.Add = 12
right_level binary.Sub = 12
right_level binary.Mult = 13
right_level binary.MatMult = 13
right_level binary.Div = 13
right_level binary.FloorDiv = 13
right_level binary.Mod = 13
right_level binary.Pow = 13
