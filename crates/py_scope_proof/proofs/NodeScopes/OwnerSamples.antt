-- Worked trees, the nodes that have a scope in them, and what their scans write of these scopes and of the scopes around them.
use Rattle.std.proofs.Common.{◌≡◌, refl, ℕ, List, [], ◌∷◌, ◌+◌, true, false, map}
use Rattle.std.specs.Prelude.{Some, None, codes}
use Rattle.py_base.specs.declared.location.SourceLocation.{SourceLocation}
use Rattle.py_base.specs.Literal as literal
use Rattle.py_tree.specs.Tree as tree
use Rattle.py_tree.specs.declared.modules.Mode.TheVariants as mode
use Rattle.py_scope.specs.declared.table_type.SymbolTableType.{SymbolTableType}
use Rattle.py_scope.specs.declared.table_type.SymbolTableType.TheVariants as scope
use Rattle.py_scope.specs.Names.{Name}
use Rattle.py_name_uses.specs.Steps.{Outcome, Done, Refused}
use Rattle.py_scan.specs.Scan.{scan_program, scan_value}
use Rattle.py_meaning.specs.Faults.{faults}
use Rattle.py_scope_proof.specs.StmtOwners.{owners_of}
use Rattle.py_scope_proof.specs.Entered.{Told, told_node, told_row}

-- what the scan writes of the scopes that it enters
abbrev written : Outcome → List (Told × ℕ)
written (Done s) = map told_row s.scopes.rows
written (Refused fault at) = []

abbrev owner_sample_at : ℕ → SourceLocation
owner_sample_at row = record { row = row; column = 1 }

-- a scope that begins at a line and stands in the scope with a number
abbrev owner_sample_row : SymbolTableType → Name → (line around : ℕ) → Told × ℕ
owner_sample_row kind n line around = (record { kind = kind; name = n; line = line }, around)

abbrev owner_sample_no_arguments : tree.Arguments
owner_sample_no_arguments = tree.arguments tree.no_args tree.no_args tree.no_arg tree.no_args tree.no_arg

-- lambda: None
abbrev lambda : ℕ → tree.Expr
lambda n = tree.Lambda (owner_sample_at n) owner_sample_no_arguments (tree.Constant (owner_sample_at n) literal.None)

abbrev of_lambda : (line around : ℕ) → Told × ℕ
of_lambda n around = owner_sample_row scope.Function (codes "lambda") n around

abbrev some : ℕ → tree.OptExpr
some n = tree.some_expr (lambda n)

abbrev owner_sample_one : tree.Expr → tree.Exprs
owner_sample_one e = tree.more_exprs e tree.no_exprs

abbrev owner_sample_name : ℕ → Name → tree.Expr
owner_sample_name n x = tree.Name (owner_sample_at n) x

-- one parameter with an annotation at a line and a default at the next
abbrev owner_sample_parameter : ℕ → Name → tree.Args
owner_sample_parameter n x = tree.more_args (tree.arg (owner_sample_at n) x (some n)) (tree.some_expr (lambda (n + 1))) tree.no_args

abbrev owner_sample_bound : ℕ → tree.TypeParams
owner_sample_bound n = tree.more_type_params (tree.TypeVar (owner_sample_at n) (codes "T") (some n)) tree.no_type_params

-- @(lambda: None)                                                    2
-- def f(a: (lambda: None) = (lambda: None),                          3 and 4
--     *, b: (lambda: None) = (lambda: None)) -> (lambda: None):      5, 6 and 7
--   return lambda: None                                              8
abbrev owner_sample_function : tree.TypeParams → tree.Stmt
owner_sample_function generic =
    tree.FunctionDef (owner_sample_at 1) (codes "f") (tree.arguments tree.no_args (owner_sample_parameter 3 (codes "a")) tree.no_arg (owner_sample_parameter 5 (codes "b")) tree.no_arg) (tree.more_stmts (tree.Return (owner_sample_at 8) (some 8)) tree.no_stmts) (owner_sample_one (lambda 2)) (some 7) generic

abbrev owner_sample_file : tree.Stmt → tree.Mod
owner_sample_file s = tree.Module (tree.more_stmts s tree.no_stmts)

-- defaults come before a function and its annotations after it, all beside it
abbrev told_function : List (Told × ℕ)
told_function = owner_sample_row scope.Module (codes "top") 0 0 ∷ of_lambda 2 0 ∷ of_lambda 4 0 ∷ of_lambda 6 0 ∷ owner_sample_row scope.Function (codes "f") 1 0 ∷ of_lambda 8 4 ∷ of_lambda 7 0 ∷ of_lambda 3 0 ∷ of_lambda 5 0 ∷ []

function_owners : map told_node (owners_of (owner_sample_file (owner_sample_function tree.no_type_params)) mode.Exec) ≡ told_function
function_owners = refl

function_written : written (scan_program (tree.more_stmts (owner_sample_function tree.no_type_params) tree.no_stmts)) ≡ told_function
function_written = refl

function_faultless : faults (owner_sample_file (owner_sample_function tree.no_type_params)) mode.Exec 0 ≡ []
function_faultless = refl

-- def f[T: (lambda: None)](..): with type parameters its defaults come last, beside the scope that the bound, the function and its annotations stand in
abbrev told_generic : List (Told × ℕ)
told_generic =
    owner_sample_row scope.Module (codes "top") 0 0 ∷ of_lambda 2 0 ∷ owner_sample_row scope.TypeParams (codes "<generic parameters of f>") 1 0 ∷ of_lambda 9 2 ∷ owner_sample_row scope.Function (codes "f") 1 2 ∷ of_lambda 8 4 ∷ of_lambda 7 2 ∷ of_lambda 3 2 ∷ of_lambda 5 2 ∷ of_lambda 4 0 ∷ of_lambda 6 0 ∷ []

generic_owners : map told_node (owners_of (owner_sample_file (owner_sample_function (owner_sample_bound 9))) mode.Exec) ≡ told_generic
generic_owners = refl

generic_written : written (scan_program (tree.more_stmts (owner_sample_function (owner_sample_bound 9)) tree.no_stmts)) ≡ told_generic
generic_written = refl

generic_faultless : faults (owner_sample_file (owner_sample_function (owner_sample_bound 9))) mode.Exec 0 ≡ []
generic_faultless = refl

-- @(lambda: None)                                                    2
-- class C[T: (lambda: None)](lambda: None, key=lambda: None):        3, 4 and 5
--   x: (lambda: None) = lambda: None                                 6 and 7
abbrev class : tree.Stmt
class =
    tree.ClassDef (owner_sample_at 1) (codes "C") (owner_sample_one (lambda 4)) (tree.more_keywords (Some (codes "key")) (lambda 5) tree.no_keywords)
    (tree.more_stmts (tree.AnnAssign (owner_sample_at 6) (owner_sample_name 6 (codes "x")) (lambda 6) (some 7) true) tree.no_stmts) (owner_sample_one (lambda 2)) (owner_sample_bound 3)

-- the bases come after the body, and stand in the scope around the type parameters
abbrev told_class : List (Told × ℕ)
told_class = owner_sample_row scope.Module (codes "top") 0 0 ∷ of_lambda 2 0 ∷ owner_sample_row scope.TypeParams (codes "<generic parameters of C>") 1 0 ∷ of_lambda 3 2 ∷ owner_sample_row scope.Class (codes "C") 1 2 ∷ of_lambda 7 4 ∷ of_lambda 6 4 ∷ of_lambda 4 2 ∷ of_lambda 5 2 ∷ []

class_owners : map told_node (owners_of (owner_sample_file class) mode.Exec) ≡ told_class
class_owners = refl

class_written : written (scan_program (tree.more_stmts class tree.no_stmts)) ≡ told_class
class_written = refl

class_faultless : faults (owner_sample_file class) mode.Exec 0 ≡ []
class_faultless = refl

-- type A[T: (lambda: None)] = lambda: None                           2 and 3
abbrev owner_sample_alias : tree.Stmt
owner_sample_alias = tree.TypeAlias (owner_sample_at 1) (owner_sample_name 1 (codes "A")) (owner_sample_bound 2) (lambda 3)

abbrev told_alias : List (Told × ℕ)
told_alias = owner_sample_row scope.Module (codes "top") 0 0 ∷ owner_sample_row scope.TypeParams (codes "<generic parameters of A>") 1 0 ∷ of_lambda 2 1 ∷ of_lambda 3 1 ∷ []

alias_owners : map told_node (owners_of (owner_sample_file owner_sample_alias) mode.Exec) ≡ told_alias
alias_owners = refl

alias_written : written (scan_program (tree.more_stmts owner_sample_alias tree.no_stmts)) ≡ told_alias
alias_written = refl

-- [(lambda: None) for x in [y for y in (lambda: None)()] if (lambda: None)() for z in (lambda: None)()]
abbrev clauses : tree.Generators → tree.Generators
clauses more = tree.more_generators (owner_sample_name 3 (codes "y")) (tree.Call (owner_sample_at 3) (lambda 3) tree.no_exprs tree.no_keywords) tree.no_exprs false more

abbrev owner_sample_comprehension : tree.Expr
owner_sample_comprehension =
    tree.ListComp (owner_sample_at 1) (lambda 2)
    (tree.more_generators (owner_sample_name 4 (codes "x")) (tree.ListComp (owner_sample_at 5) (owner_sample_name 5 (codes "y")) (clauses tree.no_generators)) (owner_sample_one (tree.Call (owner_sample_at 6) (lambda 6) tree.no_exprs tree.no_keywords)) false (clauses tree.no_generators))

-- the first iterable comes after all that stands in the comprehension, beside it
abbrev told_comprehension : List (Told × ℕ)
told_comprehension = owner_sample_row scope.Module (codes "top") 0 0 ∷ owner_sample_row scope.Comprehension (codes "genexpr") 1 0 ∷ of_lambda 6 1 ∷ of_lambda 3 1 ∷ of_lambda 2 1 ∷ owner_sample_row scope.Comprehension (codes "genexpr") 5 0 ∷ of_lambda 3 0 ∷ []

comprehension_owners : map told_node (owners_of (tree.Expression owner_sample_comprehension) mode.Eval) ≡ told_comprehension
comprehension_owners = refl

comprehension_written : written (scan_value owner_sample_comprehension) ≡ told_comprehension
comprehension_written = refl

comprehension_faultless : faults (tree.Expression owner_sample_comprehension) mode.Eval 0 ≡ []
comprehension_faultless = refl

-- {(lambda: None): (lambda: None), **(lambda: None), (lambda: None): (lambda: None)}
abbrev owner_sample_dict : tree.Expr
owner_sample_dict =
    tree.Dict (owner_sample_at 1) (tree.more_opts (some 2) (tree.more_opts tree.no_expr (tree.more_opts (some 5) tree.no_opts))) (tree.more_exprs (lambda 3) (tree.more_exprs (lambda 4) (owner_sample_one (lambda 6))))

abbrev told_dict : List (Told × ℕ)
told_dict = owner_sample_row scope.Module (codes "top") 0 0 ∷ of_lambda 2 0 ∷ of_lambda 3 0 ∷ of_lambda 4 0 ∷ of_lambda 5 0 ∷ of_lambda 6 0 ∷ []

dict_owners : map told_node (owners_of (tree.Expression owner_sample_dict) mode.Eval) ≡ told_dict
dict_owners = refl

dict_written : written (scan_value owner_sample_dict) ≡ told_dict
dict_written = refl

dict_faultless : faults (tree.Expression owner_sample_dict) mode.Eval 0 ≡ []
dict_faultless = refl

-- from __future__ import annotations
abbrev future : tree.Stmt
future = tree.ImportFrom (owner_sample_at 1) (Some (codes "__future__")) (record { name = codes "annotations"; asname = None } ∷ []) 0

-- at a prompt an expression may stand before it: lambda: None
abbrev prompt : tree.Stmts
prompt = tree.more_stmts (tree.StmtExpr (owner_sample_at 9) (lambda 9)) (tree.more_stmts future (tree.more_stmts (owner_sample_function tree.no_type_params) tree.no_stmts))

-- no annotation has a scope after it
abbrev told_prompt : List (Told × ℕ)
told_prompt = owner_sample_row scope.Module (codes "top") 0 0 ∷ of_lambda 9 0 ∷ of_lambda 2 0 ∷ of_lambda 4 0 ∷ of_lambda 6 0 ∷ owner_sample_row scope.Function (codes "f") 1 0 ∷ of_lambda 8 5 ∷ []

prompt_owners : map told_node (owners_of (tree.Interactive prompt) mode.Single) ≡ told_prompt
prompt_owners = refl

prompt_written : written (scan_program prompt) ≡ told_prompt
prompt_written = refl

prompt_faultless : faults (tree.Interactive prompt) mode.Single 0 ≡ []
prompt_faultless = refl
