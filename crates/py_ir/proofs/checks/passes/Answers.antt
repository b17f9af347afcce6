use Rattle.std.proofs.Common.{◌≡◌, ap, sym, ◌∙◌, true}
use Rattle.py_bytecode.specs.Table.{is_label}
use Rattle.py_dataflow.specs.Flat.{is_jump}
use Rattle.py_ir.specs.Checks.{in_kind, operand_fits}
use Rattle.py_ir.proofs.CheckLemmas.{none_fails}
use Rattle.py_ir.proofs.checks.passes.Goals as goal

pub returns-clause-all : goal.returns-clause-all
returns-clause-all c = λ true_is.
    let jumps : c.is_label.result ≡ is_jump c.args.item.now.instr = c.is_label.ensures ∙ ap is_label c.operand_kind-kind.ensures in
    let fits : operand_fits c.args.lens c.args.item.now ≡ true = ap (λ k. in_kind c.args.lens k c.args.item.now.arg.0) (sym c.operand_kind-kind.ensures) ∙ sym c.in_range.ensures ∙ true_is in
    let passed = c.if-not-target_passes.false in
    none_fails c.args.inside.now c.args.lens c.args.item.now
    (c.target_passes.ensures.stands passed)
    (λ j. c.target_passes.ensures.given passed (jumps ∙ j))
    (λ n. sym jumps ∙ c.target_passes.ensures.needed passed n)
    (sym c.is_prefix.ensures ∙ c.if-is_prefix.false)
    fits
