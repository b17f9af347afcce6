-- The meaning of `f(a + 1)`, run.
use Rattle.std.proofs.Common.{◌≡◌, refl, ℕ, List, [], ◌∷◌, pos, codes}
use Rattle.py_base.specs.Literal as literal
use Rattle.py_tree.specs.Tree as tree
use Rattle.py_base.specs.declared.location.SourceLocation.{SourceLocation}
use Rattle.py_base.specs.declared.operators.Operator.TheVariants.{Add}
use Rattle.py_tree.specs.declared.modules.Mode.TheVariants.{Exec}
use Rattle.py_bytecode.specs.declared.instruction.Instruction.TheVariants as op
use Rattle.py_bytecode.specs.Objects as const
use Rattle.py_bytecode.specs.Values.{Constant, Given, Gives, Raised, Event, Operates, Accesses, Unsaid, Load, Number, operation, ran, It, Returned, RaisedOut, Stopped}
use Rattle.py_control.specs.Form.{Scope}
use Rattle.py_emission_parts.specs.Context.{inside}
use Rattle.py_meaning.specs.Meaning.{body, meaning}

abbrev meaning_sample_at : ℕ → SourceLocation
meaning_sample_at column = record { row = 1; column = column }

abbrev meaning_sample_sum_called : tree.Mod
meaning_sample_sum_called =
    tree.Module (tree.more_stmts (tree.StmtExpr (meaning_sample_at 1) (tree.Call (meaning_sample_at 1) (tree.Name (meaning_sample_at 1) (codes "f")) (tree.more_exprs (tree.BinOp (meaning_sample_at 3) (tree.Name (meaning_sample_at 3) (codes "a")) Add (tree.Constant (meaning_sample_at 7) (literal.Int (pos 1)))) tree.no_exprs) tree.no_keywords)) tree.no_stmts)

abbrev meaning_sample_loads : List ℕ → Event Scope
meaning_sample_loads n = Accesses Unsaid Load n 0 []

abbrev meaning_sample_adds : Event Scope
meaning_sample_adds = Operates (operation op.BinaryOperation (Number 0)) (Given 1 0 ∷ Constant (const.integer (pos 1)) ∷ [])

abbrev meaning_sample_calls : Event Scope
meaning_sample_calls = Operates (operation op.CallFunctionPositional (Number 1)) (Given 0 0 ∷ Given 2 0 ∷ [])

-- each operation gives a value
meaning_sample_given_all : meaning (body [] meaning_sample_sum_called Exec 0) (Gives 1 ∷ Gives 1 ∷ Gives 1 ∷ Gives 1 ∷ []) ≡ ran (meaning_sample_loads (codes "f") ∷ meaning_sample_loads (codes "a") ∷ meaning_sample_adds ∷ meaning_sample_calls ∷ []) (Returned (It (Constant const.none)))
unfolding inside
meaning_sample_given_all = refl

-- the second load raises
meaning_sample_load_raises : meaning (body [] meaning_sample_sum_called Exec 0) (Gives 1 ∷ Raised ∷ []) ≡ ran (meaning_sample_loads (codes "f") ∷ meaning_sample_loads (codes "a") ∷ []) (RaisedOut (Given 1 0))
unfolding inside
meaning_sample_load_raises = refl

-- no answer
meaning_sample_no_answer : meaning (body [] meaning_sample_sum_called Exec 0) [] ≡ ran (meaning_sample_loads (codes "f") ∷ []) Stopped
unfolding inside
meaning_sample_no_answer = refl
