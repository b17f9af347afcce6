-- The items and the body of a `with`, which may not be missing.
use Rattle.std.specs.Prelude.{if◌then◌else◌}
use Rattle.py_tree.specs.Tree as tree
use Rattle.py_base.specs.declared.location.SourceLocation.{SourceLocation}
use Rattle.py_base.specs.declared.errors.CodegenErrorType.TheVariants as error
use Rattle.py_emission_parts.specs.Emitting.{Emission, refuse}
use Rattle.py_emission.specs.EmissionStmts.{emission_of_items, emission_of_stmts}
use Rattle.py_emission.specs.Predicates.{itemless, none}

-- a body that may not be empty
abbrev pub full_body : tree.Stmts → Emission
full_body body = if none body then refuse error.EmptyWithBody else emission_of_stmts body

-- items of which there has to be one
abbrev pub some_items : SourceLocation → tree.WithItems → (body : Emission) → Emission
some_items at items body = if itemless items then refuse error.EmptyWithItems else emission_of_items at items body
