-- What is emitted for one of several targets.
use Rattle.std.specs.Prelude.{Bool, true, false, if◌then◌else◌}
use Rattle.py_tree.specs.Tree as tree
use Rattle.py_bytecode.specs.declared.instruction.Instruction.TheVariants as op
use Rattle.py_emission_parts.specs.Emitting.{Emission, ◌▸◌, emit, keep}
use Rattle.py_emission.specs.Emission.{emission_of_store}

-- the value that lies there is stored to a target, and kept where more follow
abbrev pub assigned_to : (more : Bool) → tree.Expr → Emission
assigned_to more t = if more then emit op.Duplicate 0 ▸ emission_of_store t else emission_of_store t

abbrev pub some_targets : tree.Exprs → Bool
some_targets tree.no_exprs = false
some_targets (tree.more_exprs e es) = true

-- what is left to do for these targets
abbrev pub assigned_to_all : tree.Exprs → Emission
assigned_to_all tree.no_exprs = keep
assigned_to_all (tree.more_exprs e es) = assigned_to (some_targets es) e ▸ assigned_to_all es
