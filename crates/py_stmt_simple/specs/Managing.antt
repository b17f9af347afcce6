-- What enters the items of a `with`.
use Rattle.std.specs.Prelude.{◌≡◌, ◌≢◌, List}
use Rattle.py_tree.specs.Tree as tree
use Rattle.py_base.specs.declared.location.SourceLocation.{SourceLocation}
use Rattle.py_base.specs.declared.location.LocatedError.{LocatedError}
use Rattle.py_bytecode.specs.declared.instruction.Instruction.TheVariants as op
use Rattle.py_dataflow.specs.declared.info.BlockIdx.{BlockIdx}
use Rattle.py_base.specs.declared.errors.CodegenErrorType.{CodegenErrorType}
use Rattle.py_base.specs.declared.errors.CodegenErrorType.TheVariants as error
use Rattle.py_emission_parts.specs.Emitting.{Emission, Refused, State, ◌▸◌, jump, move, with_block}
use Rattle.py_emission_parts.specs.Running.{Action, ◌▹◌, run}
use Rattle.py_emission.specs.Emission.{emission_of_store}
use Rattle.py_emission.specs.EmissionStmts.{emission_of_items}
use Rattle.py_stmt_parts.specs.Managing.{left_all}

-- a target that is entered
abbrev pub stored_at : tree.Expr → Emission
stored_at t = move (tree.expr_location t) ▸ emission_of_store t

-- an item is entered, and its value stored; a block is made for its end
abbrev pub item_entry : SourceLocation → (item store : Emission) → Action
item_entry at item store s = run (item ▸ move at ▸ jump op.SetupWith s.blocks ▸ store) (with_block s)

-- from one state to another the items are entered, which end at these blocks
pub record AreEntered (at : SourceLocation) (items : tree.WithItems) (s r : State) (ends : List BlockIdx) : Type 0 where
  pub goes : (body : Emission) → run (emission_of_items at items body) s ≡ (run body ▹ left_all at ends) r

-- the items are refused whatever they manage
pub record IsRefusing (e : LocatedError CodegenErrorType) (at : SourceLocation) (items : tree.WithItems) (s : State) : Type 0 where
  pub goes : (body : Emission) → e.error ≢ error.OutOfMemory → run (emission_of_items at items body) s ≡ Refused e.error e.location
