-- The fields of each kind of row, in order. Whether the text of an integer or of bytes is one is asked when the constant is made, since such rows name no others.
use Rattle.std.specs.Prelude.{List, [], ◌∷◌}
use Rattle.py_rows_fields.specs.declared.kinds.Kind.{Kind}
use Rattle.py_rows_fields.specs.declared.kinds.Kind.TheVariants as kind
use Rattle.py_rows_fields.specs.declared.kinds.ModKind.{ModKind}
use Rattle.py_rows_fields.specs.declared.kinds.ModKind.TheVariants as program
use Rattle.py_rows_fields.specs.declared.kinds.StmtKind.{StmtKind}
use Rattle.py_rows_fields.specs.declared.kinds.StmtKind.TheVariants as statement
use Rattle.py_rows_fields.specs.declared.kinds.ExprKind.{ExprKind}
use Rattle.py_rows_fields.specs.declared.kinds.ExprKind.TheVariants as expression
use Rattle.py_rows_fields.specs.declared.kinds.ConstantKind.{ConstantKind}
use Rattle.py_rows_fields.specs.declared.kinds.ConstantKind.TheVariants as constant
use Rattle.py_rows_fields.specs.declared.kinds.TypeParamKind.{TypeParamKind}
use Rattle.py_rows_fields.specs.declared.kinds.TypeParamKind.TheVariants as generic
use Rattle.py_rows_fields.specs.declared.kinds.Sort.TheVariants as sort
use Rattle.py_rows_fields.specs.declared.table.Field.{Field}
use Rattle.py_rows_fields.specs.declared.table.Field.TheVariants as field
use Rattle.py_rows_fields.specs.declared.table.Plain.TheVariants as plain

abbrev pub mod_fields : ModKind → List Field
mod_fields program.Module = field.Nodes sort.Stmt ∷ []
mod_fields program.Interactive = field.Nodes sort.Stmt ∷ []
mod_fields program.Expression = field.Node sort.Expr ∷ []
mod_fields program.FunctionType = field.Nodes sort.Expr ∷ field.Node sort.Expr ∷ []

abbrev pub stmt_fields : StmtKind → List Field
stmt_fields statement.FunctionDef = field.Plain plain.Text ∷ field.Node sort.Arguments ∷ field.Nodes sort.Stmt ∷ field.Nodes sort.Expr ∷ field.Maybe sort.Expr ∷ field.Nodes sort.TypeParam ∷ []
stmt_fields statement.AsyncFunctionDef = field.Plain plain.Text ∷ field.Node sort.Arguments ∷ field.Nodes sort.Stmt ∷ field.Nodes sort.Expr ∷ field.Maybe sort.Expr ∷ field.Nodes sort.TypeParam ∷ []
stmt_fields statement.ClassDef = field.Plain plain.Text ∷ field.Nodes sort.Expr ∷ field.Nodes sort.Keyword ∷ field.Nodes sort.Stmt ∷ field.Nodes sort.Expr ∷ field.Nodes sort.TypeParam ∷ []
stmt_fields statement.Return = field.Maybe sort.Expr ∷ []
stmt_fields statement.Delete = field.Nodes sort.Expr ∷ []
stmt_fields statement.Assign = field.Nodes sort.Expr ∷ field.Node sort.Expr ∷ []
stmt_fields statement.TypeAlias = field.Node sort.Expr ∷ field.Nodes sort.TypeParam ∷ field.Node sort.Expr ∷ []
stmt_fields statement.AugAssign = field.Node sort.Expr ∷ field.Plain plain.Operator ∷ field.Node sort.Expr ∷ []
stmt_fields statement.AnnAssign = field.Node sort.Expr ∷ field.Node sort.Expr ∷ field.Maybe sort.Expr ∷ field.Plain plain.Truth ∷ []
stmt_fields statement.For = field.Node sort.Expr ∷ field.Node sort.Expr ∷ field.Nodes sort.Stmt ∷ field.Nodes sort.Stmt ∷ []
stmt_fields statement.AsyncFor = field.Node sort.Expr ∷ field.Node sort.Expr ∷ field.Nodes sort.Stmt ∷ field.Nodes sort.Stmt ∷ []
stmt_fields statement.While = field.Node sort.Expr ∷ field.Nodes sort.Stmt ∷ field.Nodes sort.Stmt ∷ []
stmt_fields statement.If = field.Node sort.Expr ∷ field.Nodes sort.Stmt ∷ field.Nodes sort.Stmt ∷ []
stmt_fields statement.With = field.Nodes sort.WithItem ∷ field.Nodes sort.Stmt ∷ []
stmt_fields statement.AsyncWith = field.Nodes sort.WithItem ∷ field.Nodes sort.Stmt ∷ []
stmt_fields statement.Match = field.Node sort.Expr ∷ field.Nodes sort.MatchCase ∷ []
stmt_fields statement.Raise = field.Maybe sort.Expr ∷ field.Maybe sort.Expr ∷ []
stmt_fields statement.Try = field.Nodes sort.Stmt ∷ field.Nodes sort.ExceptHandler ∷ field.Nodes sort.Stmt ∷ field.Nodes sort.Stmt ∷ []
stmt_fields statement.TryStar = field.Nodes sort.Stmt ∷ field.Nodes sort.ExceptHandler ∷ field.Nodes sort.Stmt ∷ field.Nodes sort.Stmt ∷ []
stmt_fields statement.Assert = field.Node sort.Expr ∷ field.Maybe sort.Expr ∷ []
stmt_fields statement.Import = field.Nodes sort.Alias ∷ []
stmt_fields statement.ImportFrom = field.Plain plain.MaybeText ∷ field.Nodes sort.Alias ∷ field.Plain plain.Level ∷ []
stmt_fields statement.Global = field.Plain plain.Texts ∷ []
stmt_fields statement.Nonlocal = field.Plain plain.Texts ∷ []
stmt_fields statement.Expr = field.Node sort.Expr ∷ []
stmt_fields statement.Pass = []
stmt_fields statement.Break = []
stmt_fields statement.Continue = []

abbrev pub expr_fields : ExprKind → List Field
expr_fields expression.BoolOp = field.Plain plain.BoolOperator ∷ field.Nodes sort.Expr ∷ []
expr_fields expression.NamedExpr = field.Node sort.Expr ∷ field.Node sort.Expr ∷ []
expr_fields expression.BinOp = field.Node sort.Expr ∷ field.Plain plain.Operator ∷ field.Node sort.Expr ∷ []
expr_fields expression.UnaryOp = field.Plain plain.UnaryOperator ∷ field.Node sort.Expr ∷ []
expr_fields expression.Lambda = field.Node sort.Arguments ∷ field.Node sort.Expr ∷ []
expr_fields expression.IfExp = field.Node sort.Expr ∷ field.Node sort.Expr ∷ field.Node sort.Expr ∷ []
expr_fields expression.Dict = field.MaybeNodes sort.Expr ∷ field.Nodes sort.Expr ∷ []
expr_fields expression.Set = field.Nodes sort.Expr ∷ []
expr_fields expression.ListComp = field.Node sort.Expr ∷ field.Nodes sort.Comprehension ∷ []
expr_fields expression.SetComp = field.Node sort.Expr ∷ field.Nodes sort.Comprehension ∷ []
expr_fields expression.DictComp = field.Node sort.Expr ∷ field.Node sort.Expr ∷ field.Nodes sort.Comprehension ∷ []
expr_fields expression.GeneratorExp = field.Node sort.Expr ∷ field.Nodes sort.Comprehension ∷ []
expr_fields expression.Await = field.Node sort.Expr ∷ []
expr_fields expression.Yield = field.Maybe sort.Expr ∷ []
expr_fields expression.YieldFrom = field.Node sort.Expr ∷ []
expr_fields expression.Compare = field.Node sort.Expr ∷ field.Plain plain.Comparisons ∷ field.Nodes sort.Expr ∷ []
expr_fields expression.Call = field.Node sort.Expr ∷ field.Nodes sort.Expr ∷ field.Nodes sort.Keyword ∷ []
expr_fields expression.FormattedValue = field.Node sort.Expr ∷ field.Plain plain.Conversion ∷ field.Maybe sort.Expr ∷ []
expr_fields expression.JoinedStr = field.Nodes sort.Expr ∷ []
expr_fields expression.Constant = field.Node sort.Constant ∷ []
expr_fields expression.Attribute = field.Node sort.Expr ∷ field.Plain plain.Text ∷ []
expr_fields expression.Subscript = field.Node sort.Expr ∷ field.Node sort.Expr ∷ []
expr_fields expression.Starred = field.Node sort.Expr ∷ []
expr_fields expression.Name = field.Plain plain.Text ∷ []
expr_fields expression.List = field.Nodes sort.Expr ∷ []
expr_fields expression.Tuple = field.Nodes sort.Expr ∷ []
expr_fields expression.Slice = field.Maybe sort.Expr ∷ field.Maybe sort.Expr ∷ field.Maybe sort.Expr ∷ []

abbrev pub constant_fields : ConstantKind → List Field
constant_fields constant.None = []
constant_fields constant.True = []
constant_fields constant.False = []
constant_fields constant.Ellipsis = []
constant_fields constant.Int = field.Plain plain.Text ∷ []
constant_fields constant.Str = field.Plain plain.Text ∷ []
constant_fields constant.Bytes = field.Plain plain.Text ∷ []
constant_fields constant.Tuple = field.Nodes sort.Constant ∷ []

abbrev pub type_param_fields : TypeParamKind → List Field
type_param_fields generic.TypeVar = field.Plain plain.Text ∷ field.Maybe sort.Expr ∷ []
type_param_fields generic.ParamSpec = field.Plain plain.Text ∷ []
type_param_fields generic.TypeVarTuple = field.Plain plain.Text ∷ []

abbrev pub fields_of : Kind → List Field
fields_of (kind.Mod k) = mod_fields k
fields_of (kind.Stmt k) = stmt_fields k
fields_of (kind.Expr k) = expr_fields k
fields_of (kind.Constant k) = constant_fields k
fields_of (kind.TypeParam k) = type_param_fields k
fields_of kind.Arguments = field.Nodes sort.ArgWithDefault ∷ field.Nodes sort.ArgWithDefault ∷ field.Maybe sort.Arg ∷ field.Nodes sort.ArgWithDefault ∷ field.Maybe sort.Arg ∷ []
fields_of kind.ArgWithDefault = field.Node sort.Arg ∷ field.Maybe sort.Expr ∷ []
fields_of kind.Arg = field.Plain plain.Text ∷ field.Maybe sort.Expr ∷ []
fields_of kind.Keyword = field.Plain plain.MaybeText ∷ field.Node sort.Expr ∷ []
fields_of kind.Alias = field.Plain plain.Text ∷ field.Plain plain.MaybeText ∷ []
fields_of kind.WithItem = field.Node sort.Expr ∷ field.Maybe sort.Expr ∷ []
fields_of kind.ExceptHandler = field.Maybe sort.Expr ∷ field.Plain plain.MaybeText ∷ field.Nodes sort.Stmt ∷ []
fields_of kind.Comprehension = field.Node sort.Expr ∷ field.Node sort.Expr ∷ field.Nodes sort.Expr ∷ field.Plain plain.Truth ∷ []
fields_of kind.MatchCase = field.Nodes sort.Stmt ∷ []
