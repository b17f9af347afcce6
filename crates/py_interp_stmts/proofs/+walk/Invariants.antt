use Rattle.std.proofs.Common.{◌≡◌, ◌+◌, ◌*◌, suc, drop, length}
use Rattle.py_tree.specs.View.{expr_tree, handlers, stmt_tree, stmts}
use Rattle.py_bytecode.specs.Values.{Given}
use Rattle.py_control.specs.Form.{assign_then, rounds, turns}
use Rattle.py_answers.specs.Log.{world_of}
use Rattle.py_answers.specs.Told.{value_of}
use Rattle.py_interp.specs.Statements.{handlers_walk, stmts_walk}
use Rattle.py_interp.specs.Walks.{walk_target, walk_test}
use Rattle.py_interp_simple.specs.Ends.{slot_of}
use Rattle.py_interp_stmts.proofs.+walk.Given as goal

abbrev pub invariant-statements::walk_statements-loop-statement : goal.invariant-statements::walk_statements-loop-statement
invariant-statements::walk_statements-loop-statement l =
    stmts_walk l.around (stmts stmt_tree l.body) (slot_of l.slot) (world_of l.initial.log)
    ≡ stmts_walk l.around (stmts stmt_tree (drop l.statement-index l.body)) (slot_of l.slot) (world_of l.log)

abbrev pub invariant-loops::walk_while-loop-left : goal.invariant-loops::walk_while-loop-left
invariant-loops::walk_while-loop-left l =
    let test = walk_test l.around (expr_tree l.s.test.value) in
    let body = stmts_walk l.around (stmts stmt_tree l.s.body) (slot_of l.slot) in
    let orelse = stmts_walk l.around (stmts stmt_tree l.s.orelse) (slot_of l.slot) in
    turns (suc (length (world_of l.initial.log).answers)) test body orelse (world_of l.initial.log) ≡ turns l.left test body orelse (world_of l.log)

abbrev pub decreases-loops::walk_while-loop-left : goal.decreases-loops::walk_while-loop-left
decreases-loops::walk_while-loop-left l = l.left

abbrev pub invariant-loops::walk_rounds-loop-left : goal.invariant-loops::walk_rounds-loop-left
invariant-loops::walk_rounds-loop-left l =
    let turn = assign_then (walk_target l.around (expr_tree l.s.target.value)) (stmts_walk l.around (stmts stmt_tree l.s.body) (slot_of l.slot)) in
    let orelse = stmts_walk l.around (stmts stmt_tree l.s.orelse) (slot_of l.slot) in
    rounds (suc (length (world_of l.initial.log).answers)) (value_of l.iterator') turn orelse (world_of l.initial.log) ≡ rounds l.left (value_of l.iterator') turn orelse (world_of l.log)

abbrev pub decreases-loops::walk_rounds-loop-left : goal.decreases-loops::walk_rounds-loop-left
decreases-loops::walk_rounds-loop-left l = l.left

abbrev pub invariant-tries::walk_handlers-loop-handler : goal.invariant-tries::walk_handlers-loop-handler
invariant-tries::walk_handlers-loop-handler l =
    handlers_walk l.around (handlers stmt_tree l.handlers) (Given l.exception 0) (world_of l.initial.log)
    ≡ handlers_walk l.around (handlers stmt_tree (drop l.handler-index l.handlers)) (Given l.exception 0) (world_of l.log)

abbrev pub decreases-statements::walk_statement : goal.decreases-statements::walk_statement
decreases-statements::walk_statement l = 16 * goal.size-statements::walk_statement l + 1

abbrev pub decreases-statements::walk_statements : goal.decreases-statements::walk_statements
decreases-statements::walk_statements l = 16 * goal.size-statements::walk_statements l + 2

abbrev pub decreases-statements::walk_if : goal.decreases-statements::walk_if
decreases-statements::walk_if l = 16 * goal.size-statements::walk_if l + 3

abbrev pub decreases-loops::walk_while : goal.decreases-loops::walk_while
decreases-loops::walk_while l = 16 * goal.size-loops::walk_while l + 3

abbrev pub decreases-loops::walk_round : goal.decreases-loops::walk_round
decreases-loops::walk_round l = 16 * goal.size-loops::walk_round l + 3

abbrev pub decreases-loops::walk_rounds : goal.decreases-loops::walk_rounds
decreases-loops::walk_rounds l = 16 * goal.size-loops::walk_rounds l + 4

abbrev pub decreases-loops::walk_for : goal.decreases-loops::walk_for
decreases-loops::walk_for l = 16 * goal.size-loops::walk_for l + 5

abbrev pub decreases-withs::walk_with : goal.decreases-withs::walk_with
decreases-withs::walk_with l = 16 * goal.size-withs::walk_with l + 3

abbrev pub decreases-tries::walk_named : goal.decreases-tries::walk_named
decreases-tries::walk_named l = 16 * goal.size-tries::walk_named l + 3

abbrev pub decreases-tries::walk_bound : goal.decreases-tries::walk_bound
decreases-tries::walk_bound l = 16 * goal.size-tries::walk_bound l + 4

abbrev pub decreases-tries::walk_handler : goal.decreases-tries::walk_handler
decreases-tries::walk_handler l = 16 * goal.size-tries::walk_handler l + 5

abbrev pub decreases-tries::walk_handlers : goal.decreases-tries::walk_handlers
decreases-tries::walk_handlers l = 16 * goal.size-tries::walk_handlers l + 6

abbrev pub decreases-tries::walk_handled : goal.decreases-tries::walk_handled
decreases-tries::walk_handled l = 16 * goal.size-tries::walk_handled l + 7

abbrev pub decreases-tries::walk_finally : goal.decreases-tries::walk_finally
decreases-tries::walk_finally l = 16 * goal.size-tries::walk_finally l + 8

abbrev pub decreases-tries::walk_try : goal.decreases-tries::walk_try
decreases-tries::walk_try l = 16 * goal.size-tries::walk_try l + 9
