-- The program of so many statements.
use Rattle.std.specs.Prelude.{ℕ, zero, suc, ◌+◌, ◌%◌, pos, codes, List}
use Rattle.py_base.specs.Literal as literal
use Rattle.py_base.specs.declared.location.SourceLocation.{SourceLocation}
use Rattle.py_base.specs.declared.operators.Operator.TheVariants as operator
use Rattle.py_tree.specs.Tree as tree

-- ---- one of a kind

abbrev pub one_expr : tree.Expr → tree.Exprs
one_expr e = tree.more_exprs e tree.no_exprs

abbrev pub one_stmt : tree.Stmt → tree.Stmts
one_stmt s = tree.more_stmts s tree.no_stmts

-- no parameter, and one that has neither an annotation nor a default
abbrev pub no_parameters : tree.Arguments
no_parameters = tree.arguments tree.no_args tree.no_args tree.no_arg tree.no_args tree.no_arg

abbrev pub one_parameter : SourceLocation → List ℕ → tree.Arguments
one_parameter at id = tree.arguments tree.no_args (tree.more_args (tree.arg at id tree.no_expr) tree.no_expr tree.no_args) tree.no_arg tree.no_args tree.no_arg

-- ---- the four statements, each of which stands in one place with all its nodes

-- v = i
abbrev pub an_assignment : SourceLocation → (i : ℕ) → tree.Stmt
an_assignment at i = tree.Assign at (one_expr (tree.Name at (codes "v"))) (tree.Constant at (literal.Int (pos i)))

-- f(v)
abbrev pub a_call : SourceLocation → tree.Expr
a_call at = tree.Call at (tree.Name at (codes "f")) (one_expr (tree.Name at (codes "v"))) tree.no_keywords

-- if v: f(v)
abbrev pub a_choice : SourceLocation → tree.Stmt
a_choice at = tree.If at (tree.Name at (codes "v")) (one_stmt (tree.StmtExpr at (a_call at))) tree.no_stmts

-- a + v
abbrev pub a_sum : SourceLocation → tree.Expr
a_sum at = tree.BinOp at (tree.Name at (codes "a")) operator.Add (tree.Name at (codes "v"))

-- lambda: a + v
abbrev pub a_lambda : SourceLocation → tree.Expr
a_lambda at = tree.Lambda at no_parameters (a_sum at)

-- return lambda: a + v
abbrev pub a_return : SourceLocation → tree.Stmt
a_return at = tree.Return at (tree.some_expr (a_lambda at))

-- def g(a): return lambda: a + v
abbrev pub a_function : SourceLocation → tree.Stmt
a_function at = tree.FunctionDef at (codes "g") (one_parameter at (codes "a")) (one_stmt (a_return at)) tree.no_exprs tree.no_expr tree.no_type_params

-- while v: break
abbrev pub a_loop : SourceLocation → tree.Stmt
a_loop at = tree.While at (tree.Name at (codes "v")) (one_stmt (tree.Break at)) tree.no_stmts

-- ---- the program

-- statement i, counted from 0, stands in row i + 1, at column 1
abbrev pub place : ℕ → SourceLocation
place i = record { row = i + 1; column = 1 }

-- the four by turns
abbrev pub by_turn : (turn i : ℕ) → tree.Stmt
by_turn zero i = an_assignment (place i) i
by_turn (suc zero) i = a_choice (place i)
by_turn (suc (suc zero)) i = a_function (place i)
by_turn (suc (suc (suc turn))) i = a_loop (place i)

abbrev pub statement : ℕ → tree.Stmt
statement i = by_turn (i % 4) i

-- so many statements from statement i on
abbrev pub statements : (count i : ℕ) → tree.Stmts
statements zero i = tree.no_stmts
statements (suc n) i = tree.more_stmts (statement i) (statements n (suc i))

abbrev pub program : ℕ → tree.Mod
program n = tree.Module (statements n 0)
