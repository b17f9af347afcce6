-- How a scope holds a name when the scan has registered it.
use Rattle.std.specs.Prelude.{Bool, true, false}
use Rattle.py_scope.specs.declared.rows.Holds.{Holds}
use Rattle.py_scope.specs.declared.rows.Holds.TheVariants.{Plain, DeclaredGlobal, DeclaredNonlocal, LiftedFree, LiftedGlobal, LiftedModule, Passed}

-- a holder that registration made: it declares the name, or holds it plainly
abbrev pub is_fresh : Holds → Bool
is_fresh Plain = true
is_fresh DeclaredGlobal = true
is_fresh DeclaredNonlocal = true
is_fresh LiftedFree = false
is_fresh LiftedGlobal = false
is_fresh LiftedModule = false
is_fresh Passed = false
