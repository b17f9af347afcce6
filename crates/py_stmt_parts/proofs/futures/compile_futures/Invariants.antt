use Rattle.std.proofs.Common.{◌≡◌, ◌≤◌, ◌-◌, length}
use Rattle.py_emit.specs.States.{rest, state}
use Rattle.py_stmt_parts.specs.Futures.{Leads, changed_rest}
use Rattle.py_stmt_parts.proofs.futures.compile_futures.Given as goal

abbrev pub invariant-loop-s : goal.invariant-loop-s
invariant-loop-s l =
    (rest l.em ≡ changed_rest l.postponed (rest l.initial.em)) × Leads (state l.initial.em) (state l.em) l.body l.count l.postponed × (l.count ≤ length l.body)

abbrev pub decreases-loop-s : goal.decreases-loop-s
decreases-loop-s l = length l.body - l.count
