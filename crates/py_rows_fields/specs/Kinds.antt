-- The kind words of rows. A word is looked for among the words of its length.
use Rattle.std.specs.Prelude.{ℕ, ◌==◌, List, Option, Some, None, if◌then◌else◌, length, codes}
use Rattle.std.specs.Str.{bytes_eq}
use Rattle.py_rows_fields.specs.declared.kinds.Kind.{Kind}
use Rattle.py_rows_fields.specs.declared.kinds.Kind.TheVariants as kind
use Rattle.py_rows_fields.specs.declared.kinds.ModKind.TheVariants as program
use Rattle.py_rows_fields.specs.declared.kinds.StmtKind.TheVariants as statement
use Rattle.py_rows_fields.specs.declared.kinds.ExprKind.TheVariants as expression
use Rattle.py_rows_fields.specs.declared.kinds.ConstantKind.TheVariants as constant
use Rattle.py_rows_fields.specs.declared.kinds.TypeParamKind.TheVariants as generic

abbrev pub kind_of_two : List ℕ → Option Kind
kind_of_two word =
    if bytes_eq word (codes "If") then Some (kind.Stmt statement.If) else None

abbrev pub kind_of_three : List ℕ → Option Kind
kind_of_three word =
    if bytes_eq word (codes "str") then Some (kind.Constant constant.Str) else
    (if bytes_eq word (codes "Arg") then Some kind.Arg else
    (if bytes_eq word (codes "int") then Some (kind.Constant constant.Int) else
    (if bytes_eq word (codes "Try") then Some (kind.Stmt statement.Try) else
    (if bytes_eq word (codes "For") then Some (kind.Stmt statement.For) else
    (if bytes_eq word (codes "Set") then Some (kind.Expr expression.Set) else None)))))

abbrev pub kind_of_four : List ℕ → Option Kind
kind_of_four word =
    if bytes_eq word (codes "Name") then Some (kind.Expr expression.Name) else
    (if bytes_eq word (codes "Call") then Some (kind.Expr expression.Call) else
    (if bytes_eq word (codes "Expr") then Some (kind.Stmt statement.Expr) else
    (if bytes_eq word (codes "none") then Some (kind.Constant constant.None) else
    (if bytes_eq word (codes "true") then Some (kind.Constant constant.True) else
    (if bytes_eq word (codes "List") then Some (kind.Expr expression.List) else
    (if bytes_eq word (codes "Pass") then Some (kind.Stmt statement.Pass) else
    (if bytes_eq word (codes "Dict") then Some (kind.Expr expression.Dict) else
    (if bytes_eq word (codes "With") then Some (kind.Stmt statement.With) else None))))))))

abbrev pub kind_of_five : List ℕ → Option Kind
kind_of_five word =
    if bytes_eq word (codes "Tuple") then Some (kind.Expr expression.Tuple) else
    (if bytes_eq word (codes "BinOp") then Some (kind.Expr expression.BinOp) else
    (if bytes_eq word (codes "Raise") then Some (kind.Stmt statement.Raise) else
    (if bytes_eq word (codes "false") then Some (kind.Constant constant.False) else
    (if bytes_eq word (codes "Alias") then Some kind.Alias else
    (if bytes_eq word (codes "Slice") then Some (kind.Expr expression.Slice) else
    (if bytes_eq word (codes "bytes") then Some (kind.Constant constant.Bytes) else
    (if bytes_eq word (codes "While") then Some (kind.Stmt statement.While) else
    (if bytes_eq word (codes "Break") then Some (kind.Stmt statement.Break) else
    (if bytes_eq word (codes "Yield") then Some (kind.Expr expression.Yield) else
    (if bytes_eq word (codes "IfExp") then Some (kind.Expr expression.IfExp) else
    (if bytes_eq word (codes "Await") then Some (kind.Expr expression.Await) else
    (if bytes_eq word (codes "Match") then Some (kind.Stmt statement.Match) else
    (if bytes_eq word (codes "tuple") then Some (kind.Constant constant.Tuple) else None)))))))))))))

abbrev pub kind_of_six : List ℕ → Option Kind
kind_of_six word =
    if bytes_eq word (codes "Assign") then Some (kind.Stmt statement.Assign) else
    (if bytes_eq word (codes "Return") then Some (kind.Stmt statement.Return) else
    (if bytes_eq word (codes "BoolOp") then Some (kind.Expr expression.BoolOp) else
    (if bytes_eq word (codes "Import") then Some (kind.Stmt statement.Import) else
    (if bytes_eq word (codes "Delete") then Some (kind.Stmt statement.Delete) else
    (if bytes_eq word (codes "Assert") then Some (kind.Stmt statement.Assert) else
    (if bytes_eq word (codes "Lambda") then Some (kind.Expr expression.Lambda) else
    (if bytes_eq word (codes "Module") then Some (kind.Mod program.Module) else
    (if bytes_eq word (codes "Global") then Some (kind.Stmt statement.Global) else None))))))))

abbrev pub kind_of_seven : List ℕ → Option Kind
kind_of_seven word =
    if bytes_eq word (codes "Compare") then Some (kind.Expr expression.Compare) else
    (if bytes_eq word (codes "Keyword") then Some kind.Keyword else
    (if bytes_eq word (codes "UnaryOp") then Some (kind.Expr expression.UnaryOp) else
    (if bytes_eq word (codes "Starred") then Some (kind.Expr expression.Starred) else
    (if bytes_eq word (codes "TypeVar") then Some (kind.TypeParam generic.TypeVar) else
    (if bytes_eq word (codes "SetComp") then Some (kind.Expr expression.SetComp) else
    (if bytes_eq word (codes "TryStar") then Some (kind.Stmt statement.TryStar) else None))))))

abbrev pub kind_of_eight : List ℕ → Option Kind
kind_of_eight word =
    if bytes_eq word (codes "Constant") then Some (kind.Expr expression.Constant) else
    (if bytes_eq word (codes "ClassDef") then Some (kind.Stmt statement.ClassDef) else
    (if bytes_eq word (codes "WithItem") then Some kind.WithItem else
    (if bytes_eq word (codes "Continue") then Some (kind.Stmt statement.Continue) else
    (if bytes_eq word (codes "ListComp") then Some (kind.Expr expression.ListComp) else
    (if bytes_eq word (codes "ellipsis") then Some (kind.Constant constant.Ellipsis) else
    (if bytes_eq word (codes "DictComp") then Some (kind.Expr expression.DictComp) else
    (if bytes_eq word (codes "Nonlocal") then Some (kind.Stmt statement.Nonlocal) else
    (if bytes_eq word (codes "AsyncFor") then Some (kind.Stmt statement.AsyncFor) else None))))))))

abbrev pub kind_of_nine : List ℕ → Option Kind
kind_of_nine word =
    if bytes_eq word (codes "Attribute") then Some (kind.Expr expression.Attribute) else
    (if bytes_eq word (codes "Arguments") then Some kind.Arguments else
    (if bytes_eq word (codes "Subscript") then Some (kind.Expr expression.Subscript) else
    (if bytes_eq word (codes "JoinedStr") then Some (kind.Expr expression.JoinedStr) else
    (if bytes_eq word (codes "AugAssign") then Some (kind.Stmt statement.AugAssign) else
    (if bytes_eq word (codes "YieldFrom") then Some (kind.Expr expression.YieldFrom) else
    (if bytes_eq word (codes "NamedExpr") then Some (kind.Expr expression.NamedExpr) else
    (if bytes_eq word (codes "MatchCase") then Some kind.MatchCase else
    (if bytes_eq word (codes "TypeAlias") then Some (kind.Stmt statement.TypeAlias) else
    (if bytes_eq word (codes "AsyncWith") then Some (kind.Stmt statement.AsyncWith) else
    (if bytes_eq word (codes "AnnAssign") then Some (kind.Stmt statement.AnnAssign) else
    (if bytes_eq word (codes "ParamSpec") then Some (kind.TypeParam generic.ParamSpec) else None)))))))))))

abbrev pub kind_of_ten : List ℕ → Option Kind
kind_of_ten word =
    if bytes_eq word (codes "ImportFrom") then Some (kind.Stmt statement.ImportFrom) else
    (if bytes_eq word (codes "Expression") then Some (kind.Mod program.Expression) else None)

abbrev pub kind_of_eleven : List ℕ → Option Kind
kind_of_eleven word =
    if bytes_eq word (codes "FunctionDef") then Some (kind.Stmt statement.FunctionDef) else
    (if bytes_eq word (codes "Interactive") then Some (kind.Mod program.Interactive) else None)

abbrev pub kind_of_twelve : List ℕ → Option Kind
kind_of_twelve word =
    if bytes_eq word (codes "GeneratorExp") then Some (kind.Expr expression.GeneratorExp) else
    (if bytes_eq word (codes "FunctionType") then Some (kind.Mod program.FunctionType) else
    (if bytes_eq word (codes "TypeVarTuple") then Some (kind.TypeParam generic.TypeVarTuple) else None))

abbrev pub kind_of_thirteen : List ℕ → Option Kind
kind_of_thirteen word =
    if bytes_eq word (codes "ExceptHandler") then Some kind.ExceptHandler else
    (if bytes_eq word (codes "Comprehension") then Some kind.Comprehension else None)

abbrev pub kind_of_fourteen : List ℕ → Option Kind
kind_of_fourteen word =
    if bytes_eq word (codes "ArgWithDefault") then Some kind.ArgWithDefault else
    (if bytes_eq word (codes "FormattedValue") then Some (kind.Expr expression.FormattedValue) else None)

abbrev pub kind_of_sixteen : List ℕ → Option Kind
kind_of_sixteen word =
    if bytes_eq word (codes "AsyncFunctionDef") then Some (kind.Stmt statement.AsyncFunctionDef) else None

-- the kind that a word is, of 79
abbrev pub kind_of : List ℕ → Option Kind
kind_of word =
    let n = length word in
    if n == 2 then kind_of_two word else
    (if n == 3 then kind_of_three word else
    (if n == 4 then kind_of_four word else
    (if n == 5 then kind_of_five word else
    (if n == 6 then kind_of_six word else
    (if n == 7 then kind_of_seven word else
    (if n == 8 then kind_of_eight word else
    (if n == 9 then kind_of_nine word else
    (if n == 10 then kind_of_ten word else
    (if n == 11 then kind_of_eleven word else
    (if n == 12 then kind_of_twelve word else
    (if n == 13 then kind_of_thirteen word else
    (if n == 14 then kind_of_fourteen word else
    (if n == 16 then kind_of_sixteen word else None)))))))))))))
