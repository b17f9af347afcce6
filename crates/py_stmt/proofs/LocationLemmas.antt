-- A statement begins with the move to its location: it does not matter who moves there first.
use Rattle.std.proofs.Common.{◌≡◌, refl}
use Rattle.py_tree.specs.Tree as tree
use Rattle.py_emission_parts.specs.Emitting.{State, with_location, move}
use Rattle.py_emission_parts.specs.Running.{run}
use Rattle.py_emission.specs.EmissionStmts.{emission_of_stmt}

pub entering : (x : tree.Stmt) (s : State) → run (emission_of_stmt x) s ≡ run (emission_of_stmt x) (with_location (tree.stmt_location x) s)
unfolding move with_location
entering (tree.FunctionDef at name params body decorators returns generic) s = refl
entering (tree.AsyncFunctionDef at name params body decorators returns generic) s = refl
entering (tree.ClassDef at name bases named body decorators generic) s = refl
entering (tree.Return at value) s = refl
entering (tree.Delete at targets) s = refl
entering (tree.Assign at targets value) s = refl
entering (tree.TypeAlias at name generic value) s = refl
entering (tree.AugAssign at target op value) s = refl
entering (tree.AnnAssign at target annotation value simple) s = refl
entering (tree.For at target iter body orelse) s = refl
entering (tree.AsyncFor at target iter body orelse) s = refl
entering (tree.While at test body orelse) s = refl
entering (tree.If at test body orelse) s = refl
entering (tree.With at items body) s = refl
entering (tree.AsyncWith at items body) s = refl
entering (tree.Match at subject branches) s = refl
entering (tree.Raise at exc cause) s = refl
entering (tree.Try at body excepts orelse finalbody) s = refl
entering (tree.TryStar at body excepts orelse finalbody) s = refl
entering (tree.Assert at test msg) s = refl
entering (tree.Import at names) s = refl
entering (tree.ImportFrom at path names level) s = refl
entering (tree.Global at names) s = refl
entering (tree.Nonlocal at names) s = refl
entering (tree.StmtExpr at value) s = refl
entering (tree.Pass at) s = refl
entering (tree.Break at) s = refl
entering (tree.Continue at) s = refl
