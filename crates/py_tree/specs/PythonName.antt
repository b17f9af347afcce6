-- What messages call an expression.
use Rattle.std.specs.Prelude.{ℕ, Bool, true, false, ◌||◌, List, codes, if◌then◌else◌}
use Rattle.py_base.specs.Literal as literal
use Rattle.py_tree.specs.Tree as tree

abbrev pub literal_name : literal.Literal → List ℕ
literal_name literal.None = codes "None"
literal_name (literal.Bool b) = if b then codes "True" else codes "False"
literal_name (literal.Str s) = codes "literal"
literal_name (literal.Bytes s) = codes "literal"
literal_name (literal.Int n) = codes "literal"
literal_name (literal.Tuple items) = codes "tuple"
literal_name literal.Ellipsis = codes "ellipsis"

abbrev pub is_joined : tree.Expr → Bool
is_joined (tree.JoinedStr at values) = true
is_joined _ = false

-- one of them is an f-string
abbrev pub some_joined : tree.Exprs → Bool
some_joined tree.no_exprs = false
some_joined (tree.more_exprs e es) = is_joined e || some_joined es

abbrev pub python_name : tree.Expr → List ℕ
python_name (tree.BoolOp at op values) = codes "operator"
python_name (tree.NamedExpr at target value) = codes "named expression"
python_name (tree.BinOp at left op right) = codes "operator"
python_name (tree.UnaryOp at op operand) = codes "operator"
python_name (tree.IfExp at test body orelse) = codes "conditional expression"
python_name (tree.Dict at keys values) = codes "dict display"
python_name (tree.Set at elts) = codes "set display"
python_name (tree.Lambda at params body) = codes "lambda"
python_name (tree.ListComp at elt clauses) = codes "list comprehension"
python_name (tree.SetComp at elt clauses) = codes "set comprehension"
python_name (tree.DictComp at key value clauses) = codes "dict comprehension"
python_name (tree.GeneratorExp at elt clauses) = codes "generator expression"
python_name (tree.Await at value) = codes "await expression"
python_name (tree.Yield at value) = codes "yield expression"
python_name (tree.YieldFrom at value) = codes "yield expression"
python_name (tree.Compare at left ops comparators) = codes "comparison"
python_name (tree.Call at func args named) = codes "function call"
python_name (tree.FormattedValue at value conversion format_spec) = codes "f-string expression"
python_name (tree.JoinedStr at values) = if some_joined values then codes "f-string expression" else codes "literal"
python_name (tree.Constant at value) = literal_name value
python_name (tree.Attribute at value attr) = codes "attribute"
python_name (tree.Subscript at value slice) = codes "subscript"
python_name (tree.Starred at value) = codes "starred"
python_name (tree.Name at id) = codes "name"
python_name (tree.List at elts) = codes "list"
python_name (tree.Tuple at elts) = codes "tuple"
python_name (tree.Slice at lower upper step) = codes "slice"
