-- What is emitted of loops over iterators and of `try`, in the parts that the code emits by calls of their own.
use Rattle.std.specs.Prelude.{ℕ, List, Bool, Option}
use Rattle.py_tree.specs.Tree as tree
use Rattle.py_bytecode.specs.declared.instruction.Instruction.TheVariants as op
use Rattle.py_emission_parts.specs.Emitting.{Emission, ◌▸◌, emit, in_loop, jump, with_block}
use Rattle.py_emission_parts.specs.Running.{Action, begin, on_done, run}
use Rattle.py_emission.specs.ControlEmissions.{before_last, named_body, to_last}
use Rattle.py_emission.specs.EmissionStmts.{emission_of_stmts}
use Rattle.py_stmt_simple.specs.Parts.{emission_of_match}
use Rattle.py_stmt_parts.specs.Parts.{handler_exit}

-- one turn of a loop
abbrev pub each_turn : (store body : Emission) → (start other end : ℕ) → Emission
each_turn store body start other end = jump op.ForIter other ▸ store ▸ in_loop (record { on_break = end; on_continue = start }) body ▸ jump op.Jump start

-- what runs where there are no more turns
abbrev pub each_ended : (orelse : Emission) → Emission
each_ended orelse = emit op.PopBlock 0 ▸ orelse

-- the body of a `try`, from which no exception comes
abbrev pub guarded_body : (last : Bool) → (body : Emission) → (catch other end : ℕ) → Emission
guarded_body last body catch other end = before_last last end ▸ jump op.SetupExcept catch ▸ body ▸ emit op.PopBlock 0 ▸ jump op.Jump other

-- the else part, and the way into the finally block
abbrev pub unguarded_else : (last : Bool) → (orelse : Emission) → Emission
unguarded_else last orelse = orelse ▸ to_last last

-- one handler; the others follow in a block of their own
abbrev pub one_handler : (last : Bool) → (end : ℕ) → (matches : (next : ℕ) → Emission) → (body : Emission) → Action
one_handler last end matches body s = on_done (run (matches s.blocks ▸ body ▸ handler_exit last end) (with_block s)) (begin s.blocks)

-- a handler without a type has no name
abbrev pub emission_of_caught : (type : tree.OptExpr) → (name : Option (List ℕ)) → (body : Emission) → Emission
emission_of_caught tree.no_expr name body = body
emission_of_caught (tree.some_expr e) name body = named_body name body

abbrev pub emission_of_handler : (type : tree.OptExpr) → (name : Option (List ℕ)) → (body : tree.Stmts) → (last : Bool) → (end : ℕ) → Action
emission_of_handler type name body last end = one_handler last end (emission_of_match type name) (emission_of_caught type name (emission_of_stmts body))
