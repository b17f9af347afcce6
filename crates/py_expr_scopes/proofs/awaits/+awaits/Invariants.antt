use Rattle.std.proofs.Common.{drop, ◌≡◌, ◌+◌, ◌*◌}
use Rattle.py_tree.specs.View.{expr_tree, exprs, generators, keywords, opt_exprs}
use Rattle.py_emission.specs.Awaits.{any_awaits, any_key_awaits, any_keyword_awaits, iter_awaits}
use Rattle.py_expr_scopes.proofs.awaits.+awaits.Given as goal

abbrev pub invariant-any_contains_await-loop-e : goal.invariant-any_contains_await-loop-e
invariant-any_contains_await-loop-e l = any_awaits (exprs expr_tree (drop l.e-index l.items)) ≡ any_awaits (exprs expr_tree l.items)

abbrev pub invariant-any_key_contains_await-loop-key : goal.invariant-any_key_contains_await-loop-key
invariant-any_key_contains_await-loop-key l = any_key_awaits (opt_exprs expr_tree (drop l.key-index l.keys)) ≡ any_key_awaits (opt_exprs expr_tree l.keys)

abbrev pub invariant-any_keyword_contains_await-loop-keyword : goal.invariant-any_keyword_contains_await-loop-keyword
invariant-any_keyword_contains_await-loop-keyword l = any_keyword_awaits (keywords expr_tree (drop l.keyword-index l.items)) ≡ any_keyword_awaits (keywords expr_tree l.items)

abbrev pub invariant-any_iter_contains_await-loop-clause : goal.invariant-any_iter_contains_await-loop-clause
invariant-any_iter_contains_await-loop-clause l = iter_awaits (generators expr_tree (drop l.clause-index l.clauses)) ≡ iter_awaits (generators expr_tree l.clauses)

abbrev pub decreases-contains_await : goal.decreases-contains_await
decreases-contains_await l = 3 * goal.size-contains_await l

abbrev pub decreases-any_contains_await : goal.decreases-any_contains_await
decreases-any_contains_await l = 3 * goal.size-any_contains_await l + 1

abbrev pub decreases-part_contains_await : goal.decreases-part_contains_await
decreases-part_contains_await l = 3 * goal.size-part_contains_await l + 1

abbrev pub decreases-key_contains_await : goal.decreases-key_contains_await
decreases-key_contains_await l = 3 * goal.size-key_contains_await l + 1

abbrev pub decreases-any_key_contains_await : goal.decreases-any_key_contains_await
decreases-any_key_contains_await l = 3 * goal.size-any_key_contains_await l + 2

abbrev pub decreases-any_keyword_contains_await : goal.decreases-any_keyword_contains_await
decreases-any_keyword_contains_await l = 3 * goal.size-any_keyword_contains_await l + 2

abbrev pub decreases-any_iter_contains_await : goal.decreases-any_iter_contains_await
decreases-any_iter_contains_await l = 3 * goal.size-any_iter_contains_await l + 2
