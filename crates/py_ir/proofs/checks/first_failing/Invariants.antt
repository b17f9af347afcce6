use Rattle.std.proofs.Common.{ℕ, ◌<◌, ◌^◌, get_or}
use Rattle.py_dataflow.specs.declared.info.InstructionInfo.{InstructionInfo}
use Rattle.py_ir.specs.Checks.{Fails}
use Rattle.py_ir.proofs.checks.first_failing.Given as goal

abbrev pub invariant-loop-k : goal.invariant-loop-k
invariant-loop-k l = record {
  fails : (j : ℕ) (d : InstructionInfo) → j < l.k → ¬ Fails l.check l.inside l.lens (get_or l.items j d);
  range : (j : ℕ) (d : InstructionInfo) → j < l.k → (get_or l.items j d).arg.0 < 2 ^ 32;
}
