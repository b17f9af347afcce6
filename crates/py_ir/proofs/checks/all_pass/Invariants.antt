use Rattle.std.proofs.Common.{ℕ, ◌<◌, ◌^◌, get_or}
use Rattle.py_dataflow.specs.declared.info.InstructionInfo.{InstructionInfo}
use Rattle.py_ir.specs.declared.checks.Check.{Check}
use Rattle.py_ir.specs.Checks.{Fails}
use Rattle.py_ir.proofs.checks.all_pass.Given as goal

abbrev pub invariant-loop-item : goal.invariant-loop-item
invariant-loop-item l = record {
  passes : (check : Check) (j : ℕ) (d : InstructionInfo) → j < l.item-index → ¬ Fails check l.inside l.lens (get_or l.items j d);
  range : (j : ℕ) (d : InstructionInfo) → j < l.item-index → (get_or l.items j d).arg.0 < 2 ^ 32;
}
