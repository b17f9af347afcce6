-- Trees of which nothing depends on the level: in them stands no assertion, no name `__debug__`, and no docstring of a file, a function or a class.
use Rattle.std.specs.Prelude.{◌≡◌, ℕ, zero, suc, List, false, None}
use Rattle.py_tree.specs.Tree as tree
use Rattle.py_tree.specs.declared.modules.Mode.{Mode}
use Rattle.py_scope.specs.declared.flat.ScopeEntry.{ScopeEntry}
use Rattle.py_bytecode.specs.Objects.{Object}
use Rattle.py_bytecode.specs.Units.{machine}
use Rattle.py_bytecode.specs.Values.{Answer}
use Rattle.py_control.specs.Agree.{SameRan}
use Rattle.py_control.specs.Agreement.{Agree}
use Rattle.py_control.specs.View.{plain, ran_to}
use Rattle.py_emission_parts.specs.TableParts.{is_debug}
use Rattle.py_emission.specs.Texts.{first_text}
use Rattle.py_meaning.specs.Meaning.{body}

-- no name `__debug__` stands in the expression; a lambda has no docstring
abbrev mutual
  pub FreeExpr : tree.Expr → Type 0
  FreeExpr (tree.BoolOp at o operands) = FreeExprs operands
  FreeExpr (tree.NamedExpr at target value) = FreeExpr target × FreeExpr value
  FreeExpr (tree.BinOp at left o right) = FreeExpr left × FreeExpr right
  FreeExpr (tree.UnaryOp at o operand) = FreeExpr operand
  FreeExpr (tree.Lambda at params body) = FreeArguments params × FreeExpr body
  FreeExpr (tree.IfExp at test body orelse) = FreeExpr test × FreeExpr body × FreeExpr orelse
  FreeExpr (tree.Dict at keys others) = FreeOpts keys × FreeExprs others
  FreeExpr (tree.Set at elts) = FreeExprs elts
  FreeExpr (tree.ListComp at elt gs) = FreeExpr elt × FreeClauses gs
  FreeExpr (tree.SetComp at elt gs) = FreeExpr elt × FreeClauses gs
  FreeExpr (tree.DictComp at key value gs) = FreeExpr key × FreeExpr value × FreeClauses gs
  FreeExpr (tree.GeneratorExp at elt gs) = FreeExpr elt × FreeClauses gs
  FreeExpr (tree.Await at value) = FreeExpr value
  FreeExpr (tree.Yield at value) = FreeOpt value
  FreeExpr (tree.YieldFrom at value) = FreeExpr value
  FreeExpr (tree.Compare at left ops others) = FreeExpr left × FreeExprs others
  FreeExpr (tree.Call at func args keywords) = FreeExpr func × FreeExprs args × FreeKeywords keywords
  FreeExpr (tree.FormattedValue at value conversion spec) = FreeExpr value × FreeOpt spec
  FreeExpr (tree.JoinedStr at parts) = FreeExprs parts
  FreeExpr (tree.Constant at value) = Unit {0}
  FreeExpr (tree.Attribute at value attr) = FreeExpr value
  FreeExpr (tree.Subscript at value slice) = FreeExpr value × FreeExpr slice
  FreeExpr (tree.Starred at value) = FreeExpr value
  FreeExpr (tree.Name at id) = is_debug id ≡ false
  FreeExpr (tree.List at elts) = FreeExprs elts
  FreeExpr (tree.Tuple at elts) = FreeExprs elts
  FreeExpr (tree.Slice at lower upper step) = FreeOpt lower × FreeOpt upper × FreeOpt step

  pub FreeExprs : tree.Exprs → Type 0
  FreeExprs tree.no_exprs = Unit {0}
  FreeExprs (tree.more_exprs e es) = FreeExpr e × FreeExprs es

  pub FreeOpt : tree.OptExpr → Type 0
  FreeOpt tree.no_expr = Unit {0}
  FreeOpt (tree.some_expr e) = FreeExpr e

  pub FreeOpts : tree.OptExprs → Type 0
  FreeOpts tree.no_opts = Unit {0}
  FreeOpts (tree.more_opts o os) = FreeOpt o × FreeOpts os

  pub FreeKeywords : tree.Keywords → Type 0
  FreeKeywords tree.no_keywords = Unit {0}
  FreeKeywords (tree.more_keywords name e ks) = FreeExpr e × FreeKeywords ks

  pub FreeClauses : tree.Generators → Type 0
  FreeClauses tree.no_generators = Unit {0}
  FreeClauses (tree.more_generators target iter ifs is_async gs) = FreeExpr target × FreeExpr iter × FreeExprs ifs × FreeClauses gs

  pub FreeArg : tree.Arg → Type 0
  FreeArg (tree.arg at name annotation) = FreeOpt annotation

  pub FreeOptArg : tree.OptArg → Type 0
  FreeOptArg tree.no_arg = Unit {0}
  FreeOptArg (tree.some_arg a) = FreeArg a

  pub FreeArgs : tree.Args → Type 0
  FreeArgs tree.no_args = Unit {0}
  FreeArgs (tree.more_args a default rest) = FreeArg a × FreeOpt default × FreeArgs rest

  pub FreeArguments : tree.Arguments → Type 0
  FreeArguments (tree.arguments posonly args vararg kwonly kwarg) = FreeArgs posonly × FreeArgs args × FreeOptArg vararg × FreeArgs kwonly × FreeOptArg kwarg

abbrev pub FreeParam : tree.TypeParam → Type 0
FreeParam (tree.TypeVar at name bound) = FreeOpt bound
FreeParam (tree.ParamSpec at name) = Unit {0}
FreeParam (tree.TypeVarTuple at name) = Unit {0}

abbrev pub FreeParams : tree.TypeParams → Type 0
FreeParams tree.no_type_params = Unit {0}
FreeParams (tree.more_type_params t ts) = FreeParam t × FreeParams ts

abbrev pub FreeItems : tree.WithItems → Type 0
FreeItems tree.no_items = Unit {0}
FreeItems (tree.more_items e target items) = FreeExpr e × FreeOpt target × FreeItems items

-- the statements do not begin with a docstring
abbrev pub Undocumented : tree.Stmts → Type 0
Undocumented body = first_text body ≡ None

abbrev mutual
  pub FreeStmt : tree.Stmt → Type 0
  FreeStmt (tree.FunctionDef at name params body decorators returns generic) =
      FreeArguments params × FreeStmts body × Undocumented body × FreeExprs decorators × FreeOpt returns × FreeParams generic
  FreeStmt (tree.AsyncFunctionDef at name params body decorators returns generic) =
      FreeArguments params × FreeStmts body × Undocumented body × FreeExprs decorators × FreeOpt returns × FreeParams generic
  FreeStmt (tree.ClassDef at name bases keywords body decorators generic) =
      FreeExprs bases × FreeKeywords keywords × FreeStmts body × Undocumented body × FreeExprs decorators × FreeParams generic
  FreeStmt (tree.Return at value) = FreeOpt value
  FreeStmt (tree.Delete at targets) = FreeExprs targets
  FreeStmt (tree.Assign at targets value) = FreeExprs targets × FreeExpr value
  FreeStmt (tree.TypeAlias at name generic value) = FreeExpr name × FreeParams generic × FreeExpr value
  FreeStmt (tree.AugAssign at target o value) = FreeExpr target × FreeExpr value
  FreeStmt (tree.AnnAssign at target annotation value simple) = FreeExpr target × FreeExpr annotation × FreeOpt value
  FreeStmt (tree.For at target iter body orelse) = FreeExpr target × FreeExpr iter × FreeStmts body × FreeStmts orelse
  FreeStmt (tree.AsyncFor at target iter body orelse) = FreeExpr target × FreeExpr iter × FreeStmts body × FreeStmts orelse
  FreeStmt (tree.While at t body orelse) = FreeExpr t × FreeStmts body × FreeStmts orelse
  FreeStmt (tree.If at t body orelse) = FreeExpr t × FreeStmts body × FreeStmts orelse
  FreeStmt (tree.With at items body) = FreeItems items × FreeStmts body
  FreeStmt (tree.AsyncWith at items body) = FreeItems items × FreeStmts body
  FreeStmt (tree.Match at subject branches) = FreeExpr subject × FreeCases branches
  FreeStmt (tree.Raise at exc cause) = FreeOpt exc × FreeOpt cause
  FreeStmt (tree.Try at body excepts orelse finalbody) = FreeStmts body × FreeHandlers excepts × FreeStmts orelse × FreeStmts finalbody
  FreeStmt (tree.TryStar at body excepts orelse finalbody) = FreeStmts body × FreeHandlers excepts × FreeStmts orelse × FreeStmts finalbody
  FreeStmt (tree.Assert at t msg) = ⊥
  FreeStmt (tree.Import at names) = Unit {0}
  FreeStmt (tree.ImportFrom at path names level) = Unit {0}
  FreeStmt (tree.Global at names) = Unit {0}
  FreeStmt (tree.Nonlocal at names) = Unit {0}
  FreeStmt (tree.StmtExpr at value) = FreeExpr value
  FreeStmt (tree.Pass at) = Unit {0}
  FreeStmt (tree.Break at) = Unit {0}
  FreeStmt (tree.Continue at) = Unit {0}

  pub FreeStmts : tree.Stmts → Type 0
  FreeStmts tree.no_stmts = Unit {0}
  FreeStmts (tree.more_stmts s ss) = FreeStmt s × FreeStmts ss

  pub FreeHandlers : tree.Handlers → Type 0
  FreeHandlers tree.no_handlers = Unit {0}
  FreeHandlers (tree.more_handlers type name body rest) = FreeOpt type × FreeStmts body × FreeHandlers rest

  pub FreeCases : tree.Cases → Type 0
  FreeCases tree.no_cases = Unit {0}
  FreeCases (tree.more_cases body rest) = FreeStmts body × FreeCases rest

-- what is entered at a prompt has no docstring
abbrev pub IsLevelFree : tree.Mod → Type 0
IsLevelFree (tree.Module stmts) = FreeStmts stmts × Undocumented stmts
IsLevelFree (tree.Interactive stmts) = FreeStmts stmts
IsLevelFree (tree.Expression value) = FreeExpr value
IsLevelFree (tree.FunctionType argtypes returns) = FreeExprs argtypes × FreeExpr returns

-- such a tree is the same scope at every level, so it means the same
abbrev pub LevelsAgree : Type 0
LevelsAgree = (scopes : List ScopeEntry) (t : tree.Mod) (m : Mode) (l k : ℕ) → IsLevelFree t → body scopes t m l ≡ body scopes t m k

-- For every finite list of answers the plain runs of two code objects are the same, where two code objects that the runs show, down to
-- n levels, count as the same if this holds of them in turn.
abbrev pub RunAlike : (n : ℕ) → Object → Object → Type 0
RunAlike zero o p = Unit {0}
RunAlike (suc n) o p = (answers : List Answer) → SameRan (RunAlike n) (ran_to (λ k. k) plain (machine o answers)) (ran_to (λ k. k) plain (machine p answers))

-- the code objects of such a tree at two levels, each of which agrees with the tree's scope, run alike
abbrev pub LevelsRunAlike : Type 0
LevelsRunAlike =
    (scopes : List ScopeEntry) (t : tree.Mod) (m : Mode) (l k : ℕ) (o p : Object) → IsLevelFree t → Agree o (body scopes t m l) → Agree p (body scopes t m k) → (n : ℕ) → RunAlike n o p
