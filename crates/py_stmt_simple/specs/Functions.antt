-- What makes a function of its code.
use Rattle.std.specs.Prelude.{ℕ, List}
use Rattle.py_tree.specs.View.{arguments, expr_tree, opt_box}
use Rattle.py_tree.specs.declared.statements.Stmt.{Stmt}
use Rattle.py_tree.specs.declared.statements.StmtFunctionDefOf.{StmtFunctionDefOf}
use Rattle.py_tree.specs.Tree as tree
use Rattle.py_bytecode.specs.Objects.{Object}
use Rattle.py_emission_parts.specs.Children.{function_made}
use Rattle.py_emission_parts.specs.Emitting.{Emission}
use Rattle.py_emission.specs.EmissionDefs.{notes}

abbrev pub params_of : StmtFunctionDefOf Stmt → tree.Arguments
params_of s = arguments expr_tree s.args.value

-- the annotations of a function
abbrev pub notes_of : StmtFunctionDefOf Stmt → List Emission
notes_of s = notes (params_of s) (opt_box expr_tree s.returns)

-- the function that is made of a code object with these flags
abbrev pub made_emission : (flags : ℕ) → StmtFunctionDefOf Stmt → Object → Emission
made_emission flags s o = function_made flags (notes_of s) s.name o
