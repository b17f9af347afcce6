-- What passes is refused by no check.
use Rattle.std.proofs.Common.{◌≡◌, ◌≢◌, List, Bool, true, false, sym, ◌∙◌, true≢false}
use Rattle.std.specs.Prelude.{slice_index_or}
use Rattle.py_bytecode.specs.Units.{is_prefix}
use Rattle.py_dataflow.specs.declared.info.InstructionInfo.{InstructionInfo}
use Rattle.py_dataflow.specs.Flat.{is_jump}
use Rattle.py_ir.specs.declared.checks.Check.{Check}
use Rattle.py_ir.specs.declared.checks.TableLens.{TableLens}
use Rattle.py_ir.specs.Checks.{Fails, operand_fits}

module _ (inside : List Bool) (l : TableLens) (x : InstructionInfo) where
  pub none_fails : (x.target.0 ≢ 0xffff_ffff → slice_index_or inside x.target.0 false ≡ true) → (is_jump x.instr ≡ true → x.target.0 ≢ 0xffff_ffff)
      → (x.target.0 ≢ 0xffff_ffff → is_jump x.instr ≡ true) → is_prefix x.instr ≡ false → operand_fits l x ≡ true → (check : Check) → ¬ Fails check inside l x
  none_fails stands given needed plain fits Check.TargetOutside h = true≢false (sym (stands h.0) ∙ h.1)
  none_fails stands given needed plain fits Check.JumpWithoutTarget h = given h.1 h.0
  none_fails stands given needed plain fits Check.TargetOnOther h = true≢false (sym (needed h.0) ∙ h.1)
  none_fails stands given needed plain fits Check.PrefixGiven h = true≢false (sym h ∙ plain)
  none_fails stands given needed plain fits Check.OperandOutside h = true≢false (sym fits ∙ h)
