-- The outermost scope of a tree, and what a scope means.
use Rattle.std.specs.Prelude.{ℕ, List, []}
use Rattle.py_tree.specs.Tree as tree
use Rattle.py_tree.specs.declared.modules.Mode.{Mode}
use Rattle.py_bytecode.specs.Values.{Answer, Ran}
use Rattle.py_bytecode.specs.Objects as const
use Rattle.py_scope.specs.declared.flat.ScopeEntry.{ScopeEntry}
use Rattle.py_control.specs.Form.{VConst, SForm, SReturn, Scope, MkScope}
use Rattle.py_control.specs.Agree.{plainly, meaning_by}
use Rattle.py_emission_parts.specs.Context.{Context, head_of, outermost}
use Rattle.py_meaning.specs.Interactive.{interactive_form}
use Rattle.py_meaning.specs.Table.{expr_form}
use Rattle.py_meaning.specs.TableStmts.{program_form}

-- a file, and an expression whose value is returned, are compiled alike in every mode; a return of None stands for the type of a function, which is
-- no tree of a program. Scope 1 is the first within
abbrev pub mod_form : Context → tree.Mod → Mode → SForm
mod_form c (tree.Module stmts) m = program_form c stmts
mod_form c (tree.Interactive stmts) m = interactive_form m c stmts
mod_form c (tree.Expression value) m = SReturn (expr_form c 1 value)
mod_form c other m = SReturn (VConst const.none)

-- the outermost scope, where these are the scopes of the tree; what is meant does not see the path of the source
abbrev pub body : List ScopeEntry → tree.Mod → Mode → (level : ℕ) → Scope
body scopes t mode level = let c = outermost level [] scopes in MkScope (head_of c) (mod_form c t mode)

-- the events and the outcome of a scope, for a finite list of answers
abbrev pub meaning : Scope → List Answer → Ran Scope
meaning s answers = meaning_by plainly s answers
