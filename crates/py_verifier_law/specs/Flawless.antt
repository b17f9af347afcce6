-- What compiles has no verification error.
use Rattle.std.specs.Prelude.{ℕ, List, Result, IfOk}
use Rattle.py_tree.specs.Tree as tree
use Rattle.py_tree.specs.declared.modules.Mode.{Mode}
use Rattle.py_base.specs.declared.location.LocatedError.{LocatedError}
use Rattle.py_bytecode.specs.View.{object}
use Rattle.py_bytecode.specs.declared.code.CodeObject.{CodeObject}
use Rattle.py_base.specs.declared.errors.CodegenErrorType.{CodegenErrorType}
use Rattle.py_verify.specs.Nested.{Flawless}
use Rattle.codegen.specs.Calls.{IsCompiled}

-- a code that a compile call answers has no verification error, and none holds in a code nested in it
abbrev pub CompiledIsFlawless : Type 0
CompiledIsFlawless =
    (answer : Result CodeObject (LocatedError CodegenErrorType)) (t : tree.Mod) (source : List ℕ) (m : Mode) (l : ℕ) → IsCompiled answer t source m l → IfOk answer (λ code. Flawless (object code))
