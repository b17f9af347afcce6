use Rattle.std.proofs.Common.{◌≡◌, ◌+◌, ◌*◌, drop}
use Rattle.py_tree.specs.View.{args, expr_tree, exprs, generators, keywords, opt_exprs}
use Rattle.py_annotation_text.specs.FStrings.{in_args, in_clauses, in_keys, in_keywords, some_f_string}
use Rattle.py_annotation_text.proofs.f_strings.+f_strings.Given as goal

abbrev pub decreases-has_f_string : goal.decreases-has_f_string
decreases-has_f_string l = 8 * goal.size-has_f_string l + 0

abbrev pub decreases-some_f_string : goal.decreases-some_f_string
decreases-some_f_string l = 8 * goal.size-some_f_string l + 1

abbrev pub decreases-in_optional : goal.decreases-in_optional
decreases-in_optional l = 8 * goal.size-in_optional l + 2

abbrev pub decreases-in_keys : goal.decreases-in_keys
decreases-in_keys l = 8 * goal.size-in_keys l + 3

abbrev pub decreases-in_key : goal.decreases-in_key
decreases-in_key l = 8 * goal.size-in_key l + 1

abbrev pub decreases-in_keywords : goal.decreases-in_keywords
decreases-in_keywords l = 8 * goal.size-in_keywords l + 2

abbrev pub decreases-in_clauses : goal.decreases-in_clauses
decreases-in_clauses l = 8 * goal.size-in_clauses l + 4

abbrev pub decreases-in_clause : goal.decreases-in_clause
decreases-in_clause l = 8 * goal.size-in_clause l + 3

abbrev pub decreases-in_parameters : goal.decreases-in_parameters
decreases-in_parameters l = 8 * goal.size-in_parameters l + 7

abbrev pub decreases-in_args : goal.decreases-in_args
decreases-in_args l = 8 * goal.size-in_args l + 6

abbrev pub decreases-in_default_arg : goal.decreases-in_default_arg
decreases-in_default_arg l = 8 * goal.size-in_default_arg l + 5

abbrev pub decreases-in_optional_arg : goal.decreases-in_optional_arg
decreases-in_optional_arg l = 8 * goal.size-in_optional_arg l + 4

abbrev pub decreases-in_arg : goal.decreases-in_arg
decreases-in_arg l = 8 * goal.size-in_arg l + 3

abbrev pub invariant-some_f_string-loop-item : goal.invariant-some_f_string-loop-item
invariant-some_f_string-loop-item l = some_f_string (exprs expr_tree (drop l.item-index l.items)) ≡ some_f_string (exprs expr_tree l.items)

abbrev pub invariant-in_keys-loop-key : goal.invariant-in_keys-loop-key
invariant-in_keys-loop-key l = in_keys (opt_exprs expr_tree (drop l.key-index l.keys)) ≡ in_keys (opt_exprs expr_tree l.keys)

abbrev pub invariant-in_keywords-loop-keyword : goal.invariant-in_keywords-loop-keyword
invariant-in_keywords-loop-keyword l = in_keywords (keywords expr_tree (drop l.keyword-index l.items)) ≡ in_keywords (keywords expr_tree l.items)

abbrev pub invariant-in_clauses-loop-clause : goal.invariant-in_clauses-loop-clause
invariant-in_clauses-loop-clause l = in_clauses (generators expr_tree (drop l.clause-index l.clauses)) ≡ in_clauses (generators expr_tree l.clauses)

abbrev pub invariant-in_args-loop-item : goal.invariant-in_args-loop-item
invariant-in_args-loop-item l = in_args (args expr_tree (drop l.item-index l.items)) ≡ in_args (args expr_tree l.items)
