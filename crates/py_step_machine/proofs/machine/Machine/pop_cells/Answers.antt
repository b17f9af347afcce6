use Rattle.std.proofs.Common.{◌≡◌, sym, ◌∙◌, arith}
use Rattle.std.proofs.lemmas.Result.{err_from_is_err_and}
use Rattle.py_step_machine.specs.State.{state_of}
use Rattle.py_step_machine.proofs.ProgramStopLemmas.{halts_same}
use Rattle.py_step_machine.proofs.TakenValueLemmas.{all_cells, cells_halt, cells_taken}
use Rattle.py_step_machine.proofs.machine.Machine.pop_cells.Goals as goal

pub returns-in_err-pop_cell_tuple : goal.returns-in_err-pop_cell_tuple
returns-in_err-pop_cell_tuple c =
    let p = err_from_is_err_and c.from_residual.result c.from_residual.ensures.1 in
    rw (p.1, p.2) (halts_same _ _ _ _ (sym c.loop-left.invariant) (cells_halt c.loop-left.left c.loop-left-test.true (state_of c.loop-left.self) _ _ c.in_err-pop_cell_tuple.ensures))

pub loop-left-preserved : goal.loop-left-preserved
loop-left-preserved c = sym (cells_taken c.loop-left.left c.loop-left-test.true _ _ _ c.in_ok-pop_cell_tuple.ensures) ∙ c.loop-left.invariant

pub returns : goal.returns
returns c =
    let none : c.loop-left.left ≡ 0 = omega arith in
    sym c.loop-left.invariant ∙ all_cells c.loop-left.left none (state_of c.loop-left.self)
