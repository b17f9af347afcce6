-- What is emitted of statements at a prompt, by whether others follow.
use Rattle.py_tree.specs.Tree as tree
use Rattle.py_bytecode.specs.declared.instruction.Instruction.TheVariants as op
use Rattle.py_bytecode.specs.Objects as const
use Rattle.py_emission_parts.specs.Emitting.{Emission, ◌▸◌, emit, emit_constant, keep}
use Rattle.py_emission.specs.Emission.{emission}
use Rattle.py_emission.specs.EmissionStmts.{emission_of_stmt}

-- a statement that others follow
abbrev pub prompted_stmt : tree.Stmt → Emission
prompted_stmt (tree.StmtExpr at value) = emission value ▸ emit op.PrintExpr 0
prompted_stmt other = emission_of_stmt other

-- such statements one after another
abbrev pub all_prompted : tree.Stmts → Emission
all_prompted tree.no_stmts = keep
all_prompted (tree.more_stmts s ss) = prompted_stmt s ▸ all_prompted ss

-- the last one
abbrev pub shown_stmt : tree.Stmt → Emission
shown_stmt (tree.StmtExpr at value) = emission value ▸ emit op.Duplicate 0 ▸ emit op.PrintExpr 0 ▸ emit op.ReturnValue 0
shown_stmt other = emission_of_stmt other ▸ emit_constant op.ReturnConst const.none
