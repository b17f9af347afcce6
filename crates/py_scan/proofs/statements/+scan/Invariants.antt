use denote.Param.Weighed.{most}
use Rattle.std.proofs.Common.{◌≡◌, ◌+◌, ◌*◌, drop}
use Rattle.std.specs.Prelude.{max}
use Rattle.py_tree.specs.View.{handlers, stmt_tree, stmts}
use Rattle.py_tree.proofs.statements.Stmt.TheLaws.{the_size}
use Rattle.py_name_uses.specs.Goes.{state}
use Rattle.py_scan.specs.Scan.{scan_handlers, scan_stmts}
use Rattle.py_scan.proofs.statements.+scan.Given as goal

abbrev pub decreases-scan_function : goal.decreases-scan_function
decreases-scan_function l = 8 * most the_size l.function.now.body.now + 6

abbrev pub decreases-scan_generic_function : goal.decreases-scan_generic_function
decreases-scan_generic_function l = 8 * most the_size l.function.now.body.now + 5

abbrev pub decreases-scan_handed_function : goal.decreases-scan_handed_function
decreases-scan_handed_function l = 8 * most the_size l.function.now.body.now + 4

abbrev pub decreases-scan_function_scope : goal.decreases-scan_function_scope
decreases-scan_function_scope l = 8 * most the_size l.function.now.body.now + 3

abbrev pub decreases-scan_generic_class : goal.decreases-scan_generic_class
decreases-scan_generic_class l = 8 * goal.size-scan_generic_class l + 6

abbrev pub decreases-scan_class_parts : goal.decreases-scan_class_parts
decreases-scan_class_parts l = 8 * goal.size-scan_class_parts l + 5

abbrev pub decreases-scan_stmt : goal.decreases-scan_stmt
decreases-scan_stmt l = 8 * goal.size-scan_stmt l + 0

abbrev pub decreases-scan_stmts : goal.decreases-scan_stmts
decreases-scan_stmts l = 8 * goal.size-scan_stmts l + 1

abbrev pub decreases-scan_function_def : goal.decreases-scan_function_def
decreases-scan_function_def l = 8 * goal.size-scan_function_def l + 7

abbrev pub decreases-scan_async_function_def : goal.decreases-scan_async_function_def
decreases-scan_async_function_def l = 8 * goal.size-scan_async_function_def l + 7

abbrev pub decreases-scan_function_body : goal.decreases-scan_function_body
decreases-scan_function_body l = 8 * most the_size l.function.now.body.now + 2

abbrev pub decreases-scan_class_def : goal.decreases-scan_class_def
decreases-scan_class_def l = 8 * goal.size-scan_class_def l + 7

abbrev pub decreases-scan_class_scope : goal.decreases-scan_class_scope
decreases-scan_class_scope l = 8 * goal.size-scan_class_scope l + 4

abbrev pub decreases-scan_class_body : goal.decreases-scan_class_body
decreases-scan_class_body l = 8 * goal.size-scan_class_body l + 3

abbrev pub decreases-scan_for : goal.decreases-scan_for
decreases-scan_for l = 8 * max (most the_size l.body.now) (most the_size l.orelse.now) + 7

abbrev pub decreases-scan_branches : goal.decreases-scan_branches
decreases-scan_branches l = 8 * max (most the_size l.body.now) (most the_size l.orelse.now) + 7

abbrev pub decreases-scan_with : goal.decreases-scan_with
decreases-scan_with l = 8 * most the_size l.body.now + 7

abbrev pub decreases-scan_try : goal.decreases-scan_try
decreases-scan_try l =
    let handled = max (most the_size l.body.now) (most (λ h. most the_size h.body) l.handlers.now) in
    8 * max handled (max (most the_size l.orelse.now) (most the_size l.finalbody.now)) + 7

abbrev pub decreases-scan_handlers : goal.decreases-scan_handlers
decreases-scan_handlers l = 8 * goal.size-scan_handlers l + 3

abbrev pub decreases-scan_handler : goal.decreases-scan_handler
decreases-scan_handler l = 8 * goal.size-scan_handler l + 2

abbrev pub invariant-scan_stmts-loop-stmt : goal.invariant-scan_stmts-loop-stmt
invariant-scan_stmts-loop-stmt l = scan_stmts (stmts stmt_tree l.body) (state l.initial.scan) ≡ scan_stmts (stmts stmt_tree (drop l.stmt-index l.body)) (state l.scan)

abbrev pub invariant-scan_handlers-loop-handler : goal.invariant-scan_handlers-loop-handler
invariant-scan_handlers-loop-handler l = scan_handlers l.at (handlers stmt_tree l.items) (state l.initial.scan) ≡ scan_handlers l.at (handlers stmt_tree (drop l.handler-index l.items)) (state l.scan)
