-- Names of wrong shapes.
use Rattle.std.specs.Prelude.{ℕ, List, codes}
use Rattle.py_base.specs.declared.shapes.Malformed.{Malformed}
use Rattle.py_base.specs.declared.shapes.Malformed.TheVariants as shape

abbrev pub shape_name : Malformed → List ℕ
shape_name shape.WrongMode = codes "WrongMode"
shape_name shape.NoOperand = codes "NoOperand"
shape_name shape.NoTarget = codes "NoTarget"
shape_name shape.NoGenerator = codes "NoGenerator"
shape_name shape.UnevenLists = codes "UnevenLists"
shape_name shape.CauseAlone = codes "CauseAlone"
shape_name shape.NameWithoutType = codes "NameWithoutType"
shape_name shape.EmptyName = codes "EmptyName"
shape_name shape.StrayDot = codes "StrayDot"
shape_name shape.SameParameter = codes "SameParameter"
shape_name shape.DefaultOrder = codes "DefaultOrder"
