use Rattle.std.proofs.Common.{◌≡◌, ◌≤◌, ◌+◌, ◌*◌, [], drop, length}
use denote.Param.Weighed.{most}
use Rattle.std.specs.Prelude.{max}
use Rattle.py_bytecode.specs.Values.{given_values}
use Rattle.py_tree.specs.View.{args, expr_tree, exprs, keywords}
use Rattle.py_tree.proofs.expressions.Expr.TheLaws.{the_size}
use Rattle.py_answers.specs.Log.{world_of}
use Rattle.py_answers.specs.Told.{value_of, values_of}
use Rattle.py_interp.specs.Doing.{get_all, get_entries, get_groups, get_maps, links, put_each, shorts, tests, values_in, values_of_all}
use Rattle.py_interp.specs.Walks.{all_targets, all_walks, keyword_only_walks, keyword_walks, positional_walks}
use Rattle.py_interp_exprs.specs.Options.{told_option}
use Rattle.py_interp_exprs.proofs.Places.{entries}
use Rattle.py_interp_exprs.proofs.+walk.Given as goal

abbrev pub invariant-elements::walk_all-loop-item : goal.invariant-elements::walk_all-loop-item
invariant-elements::walk_all-loop-item l =
    get_all [] (values_of_all (all_walks l.around (exprs expr_tree l.items))) (world_of l.initial.log)
    ≡ get_all (values_of l.values.items) (values_of_all (all_walks l.around (exprs expr_tree (drop l.item-index l.items)))) (world_of l.log)

abbrev pub invariant-elements::walk_groups-loop-elt : goal.invariant-elements::walk_groups-loop-elt
invariant-elements::walk_groups-loop-elt l =
    get_groups [] [] (all_walks l.around (exprs expr_tree l.elts)) (world_of l.initial.log)
    ≡ get_groups (values_of l.groups.items) (values_of l.run.items) (all_walks l.around (exprs expr_tree (drop l.elt-index l.elts))) (world_of l.log)

abbrev pub invariant-dicts::walk_entries-loop-i : goal.invariant-dicts::walk_entries-loop-i
invariant-dicts::walk_entries-loop-i l =
    (get_entries (told_option l.initial.map) 0 [] (entries l.around l.keys l.values) (world_of l.initial.log)
    ≡ get_entries (told_option l.map) l.count (values_of l.run.items) (entries l.around (drop l.i l.keys) (drop l.i l.values)) (world_of l.log))
    × (l.count ≤ l.i)

abbrev pub invariant-keywords::walk_keyword_values-loop-keyword : goal.invariant-keywords::walk_keyword_values-loop-keyword
invariant-keywords::walk_keyword_values-loop-keyword l =
    get_all (values_of l.initial.values.items) (values_in (keyword_walks l.around (keywords expr_tree l.keywords))) (world_of l.initial.log)
    ≡ get_all (values_of l.values.items) (values_in (keyword_walks l.around (keywords expr_tree (drop l.keyword-index l.keywords)))) (world_of l.log)

abbrev pub invariant-keywords::walk_maps-loop-keyword : goal.invariant-keywords::walk_maps-loop-keyword
invariant-keywords::walk_maps-loop-keyword l =
    (get_maps [] 0 [] (keyword_walks l.around (keywords expr_tree l.keywords)) (world_of l.initial.log)
    ≡ get_maps (values_of l.maps.items) l.count (values_of l.run.items) (keyword_walks l.around (keywords expr_tree (drop l.keyword-index l.keywords))) (world_of l.log))
    × (l.count ≤ l.keyword-index)

abbrev pub invariant-functions::walk_positional-loop-arg : goal.invariant-functions::walk_positional-loop-arg
invariant-functions::walk_positional-loop-arg l =
    get_all (values_of l.initial.values.items) (positional_walks l.around (args expr_tree l.args)) (world_of l.initial.log)
    ≡ get_all (values_of l.values.items) (positional_walks l.around (args expr_tree (drop l.arg-index l.args))) (world_of l.log)

abbrev pub invariant-functions::walk_keyword_only-loop-arg : goal.invariant-functions::walk_keyword_only-loop-arg
invariant-functions::walk_keyword_only-loop-arg l =
    (get_maps [] 0 [] (keyword_only_walks l.around (args expr_tree l.args)) (world_of l.initial.log)
    ≡ get_maps [] l.count (values_of l.run.items) (keyword_only_walks l.around (args expr_tree (drop l.arg-index l.args))) (world_of l.log))
    × (l.count ≤ l.arg-index)

abbrev pub invariant-conditions::walk_shorts-loop-i : goal.invariant-conditions::walk_shorts-loop-i
invariant-conditions::walk_shorts-loop-i l =
    shorts l.decides (all_walks l.around (exprs expr_tree l.values)) (world_of l.initial.log)
    ≡ shorts l.decides (all_walks l.around (exprs expr_tree (drop l.i l.values))) (world_of l.log)

abbrev pub invariant-conditions::walk_tests-loop-i : goal.invariant-conditions::walk_tests-loop-i
invariant-conditions::walk_tests-loop-i l =
    tests l.decides (all_walks l.around (exprs expr_tree l.values)) (world_of l.initial.log)
    ≡ tests l.decides (all_walks l.around (exprs expr_tree (drop l.i l.values))) (world_of l.log)

abbrev pub invariant-comparisons::walk_links-loop-i : goal.invariant-comparisons::walk_links-loop-i
invariant-comparisons::walk_links-loop-i l =
    links l.ops (all_walks l.around (exprs expr_tree l.others)) (value_of l.initial.left) (world_of l.initial.log)
    ≡ links (drop l.i l.ops) (all_walks l.around (exprs expr_tree (drop l.i l.others))) (value_of l.left) (world_of l.log)

abbrev pub invariant-targets::put_each-loop-elt : goal.invariant-targets::put_each-loop-elt
invariant-targets::put_each-loop-elt l =
    (put_each (all_targets l.around (exprs expr_tree l.elts)) (given_values (length l.elts) l.answer 0) (world_of l.initial.log)
    ≡ put_each (all_targets l.around (exprs expr_tree (drop l.elt-index l.elts))) (given_values (length (drop l.elt-index l.elts)) l.answer l.index) (world_of l.log))
    × (l.index ≡ l.elt-index)

abbrev pub decreases-expressions::walk_expression : goal.decreases-expressions::walk_expression
decreases-expressions::walk_expression l = 16 * goal.size-expressions::walk_expression l + 1

abbrev pub decreases-expressions::walk_named_expr : goal.decreases-expressions::walk_named_expr
decreases-expressions::walk_named_expr l = 16 * goal.size-expressions::walk_named_expr l + 8

abbrev pub decreases-expressions::walk_bin_op : goal.decreases-expressions::walk_bin_op
decreases-expressions::walk_bin_op l = 16 * goal.size-expressions::walk_bin_op l + 8

abbrev pub decreases-expressions::walk_unary_op : goal.decreases-expressions::walk_unary_op
decreases-expressions::walk_unary_op l = 16 * goal.size-expressions::walk_unary_op l + 6

abbrev pub decreases-expressions::walk_if_exp : goal.decreases-expressions::walk_if_exp
decreases-expressions::walk_if_exp l = 16 * goal.size-expressions::walk_if_exp l + 8

abbrev pub decreases-expressions::walk_yield : goal.decreases-expressions::walk_yield
decreases-expressions::walk_yield l = 16 * goal.size-expressions::walk_yield l + 8

abbrev pub decreases-expressions::walk_yield_from : goal.decreases-expressions::walk_yield_from
decreases-expressions::walk_yield_from l = 16 * goal.size-expressions::walk_yield_from l + 8

abbrev pub decreases-expressions::walk_iterator : goal.decreases-expressions::walk_iterator
decreases-expressions::walk_iterator l = 16 * goal.size-expressions::walk_iterator l + 2

abbrev pub decreases-expressions::walk_formatted_value : goal.decreases-expressions::walk_formatted_value
decreases-expressions::walk_formatted_value l = 16 * goal.size-expressions::walk_formatted_value l + 8

abbrev pub decreases-expressions::walk_format_spec : goal.decreases-expressions::walk_format_spec
decreases-expressions::walk_format_spec l = 16 * goal.size-expressions::walk_format_spec l + 2

abbrev pub decreases-expressions::walk_joined_str : goal.decreases-expressions::walk_joined_str
decreases-expressions::walk_joined_str l = 16 * goal.size-expressions::walk_joined_str l + 8

abbrev pub decreases-expressions::walk_attribute : goal.decreases-expressions::walk_attribute
decreases-expressions::walk_attribute l = 16 * goal.size-expressions::walk_attribute l + 8

abbrev pub decreases-expressions::walk_subscript : goal.decreases-expressions::walk_subscript
decreases-expressions::walk_subscript l = 16 * goal.size-expressions::walk_subscript l + 8

abbrev pub decreases-displays::walk_or_none : goal.decreases-displays::walk_or_none
decreases-displays::walk_or_none l = 16 * goal.size-displays::walk_or_none l + 2

abbrev pub decreases-displays::walk_display : goal.decreases-displays::walk_display
decreases-displays::walk_display l = 16 * goal.size-displays::walk_display l + 6

abbrev pub decreases-displays::walk_slice : goal.decreases-displays::walk_slice
decreases-displays::walk_slice l = 16 * goal.size-displays::walk_slice l + 8

abbrev pub decreases-elements::walk_all : goal.decreases-elements::walk_all
decreases-elements::walk_all l = 16 * goal.size-elements::walk_all l + 3

abbrev pub decreases-elements::walk_behind : goal.decreases-elements::walk_behind
decreases-elements::walk_behind l = 16 * goal.size-elements::walk_behind l + 2

abbrev pub decreases-elements::walk_groups : goal.decreases-elements::walk_groups
decreases-elements::walk_groups l = 16 * goal.size-elements::walk_groups l + 3

abbrev pub decreases-dicts::walk_dict : goal.decreases-dicts::walk_dict
decreases-dicts::walk_dict l = 16 * goal.size-dicts::walk_dict l + 8

abbrev pub decreases-dicts::walk_pair : goal.decreases-dicts::walk_pair
decreases-dicts::walk_pair l = 16 * max (goal.size-dicts::walk_pair l) (the_size l.value.now) + 2

abbrev pub decreases-dicts::walk_spread : goal.decreases-dicts::walk_spread
decreases-dicts::walk_spread l = 16 * goal.size-dicts::walk_spread l + 2

abbrev pub decreases-conditions::walk_bool_op : goal.decreases-conditions::walk_bool_op
decreases-conditions::walk_bool_op l = 16 * goal.size-conditions::walk_bool_op l + 8

abbrev pub decreases-conditions::walk_shorts : goal.decreases-conditions::walk_shorts
decreases-conditions::walk_shorts l = 16 * goal.size-conditions::walk_shorts l + 4

abbrev pub decreases-conditions::walk_asked : goal.decreases-conditions::walk_asked
decreases-conditions::walk_asked l = 16 * goal.size-conditions::walk_asked l + 2

abbrev pub decreases-conditions::walk_test : goal.decreases-conditions::walk_test
decreases-conditions::walk_test l = 16 * goal.size-conditions::walk_test l + 3

abbrev pub decreases-conditions::walk_truth : goal.decreases-conditions::walk_truth
decreases-conditions::walk_truth l = 16 * goal.size-conditions::walk_truth l + 2

abbrev pub decreases-conditions::walk_unary_test : goal.decreases-conditions::walk_unary_test
decreases-conditions::walk_unary_test l = 16 * goal.size-conditions::walk_unary_test l + 8

abbrev pub decreases-conditions::walk_tests : goal.decreases-conditions::walk_tests
decreases-conditions::walk_tests l = 16 * goal.size-conditions::walk_tests l + 4

abbrev pub decreases-comparisons::walk_compare : goal.decreases-comparisons::walk_compare
decreases-comparisons::walk_compare l = 16 * goal.size-comparisons::walk_compare l + 8

abbrev pub decreases-comparisons::walk_links : goal.decreases-comparisons::walk_links
decreases-comparisons::walk_links l = 16 * goal.size-comparisons::walk_links l + 4

abbrev pub decreases-calls::walk_call : goal.decreases-calls::walk_call
decreases-calls::walk_call l = 16 * goal.size-calls::walk_call l + 10

abbrev pub decreases-calls::walk_callee : goal.decreases-calls::walk_callee
decreases-calls::walk_callee l = 16 * goal.size-calls::walk_callee l + 2

abbrev pub decreases-calls::walk_placed : goal.decreases-calls::walk_placed
decreases-calls::walk_placed l = 16 * goal.size-calls::walk_placed l + 8

abbrev pub decreases-calls::walk_packed : goal.decreases-calls::walk_packed
decreases-calls::walk_packed l = 16 * goal.size-calls::walk_packed l + 8

abbrev pub decreases-keywords::walk_keyword_values : goal.decreases-keywords::walk_keyword_values
decreases-keywords::walk_keyword_values l = 16 * goal.size-keywords::walk_keyword_values l + 3

abbrev pub decreases-keywords::walk_maps : goal.decreases-keywords::walk_maps
decreases-keywords::walk_maps l = 16 * goal.size-keywords::walk_maps l + 4

abbrev pub decreases-keywords::walk_named : goal.decreases-keywords::walk_named
decreases-keywords::walk_named l = 16 * goal.size-keywords::walk_named l + 2

abbrev pub decreases-functions::walk_lambda : goal.decreases-functions::walk_lambda
decreases-functions::walk_lambda l = 16 * goal.size-functions::walk_lambda l + 8

abbrev pub decreases-functions::walk_defaults : goal.decreases-functions::walk_defaults
decreases-functions::walk_defaults l = 16 * goal.size-functions::walk_defaults l + 7

abbrev pub decreases-functions::walk_positionals : goal.decreases-functions::walk_positionals
decreases-functions::walk_positionals l = 16 * goal.size-functions::walk_positionals l + 6

abbrev pub decreases-functions::walk_positional : goal.decreases-functions::walk_positional
decreases-functions::walk_positional l = 16 * goal.size-functions::walk_positional l + 4

abbrev pub decreases-functions::walk_keyword_only : goal.decreases-functions::walk_keyword_only
decreases-functions::walk_keyword_only l = 16 * goal.size-functions::walk_keyword_only l + 4

abbrev pub decreases-functions::walk_comprehension : goal.decreases-functions::walk_comprehension
decreases-functions::walk_comprehension l = 16 * goal.size-functions::walk_comprehension l + 6

abbrev pub decreases-functions::walk_first_iterator : goal.decreases-functions::walk_first_iterator
decreases-functions::walk_first_iterator l = 16 * goal.size-functions::walk_first_iterator l + 4

abbrev pub decreases-functions::walk_first : goal.decreases-functions::walk_first
decreases-functions::walk_first l = 16 * goal.size-functions::walk_first l + 2

abbrev pub decreases-targets::walk_target : goal.decreases-targets::walk_target
decreases-targets::walk_target l = 16 * goal.size-targets::walk_target l + 1

abbrev pub decreases-targets::put_attribute : goal.decreases-targets::put_attribute
decreases-targets::put_attribute l = 16 * goal.size-targets::put_attribute l + 8

abbrev pub decreases-targets::put_subscript : goal.decreases-targets::put_subscript
decreases-targets::put_subscript l = 16 * goal.size-targets::put_subscript l + 8

abbrev pub decreases-targets::unpack : goal.decreases-targets::unpack
decreases-targets::unpack l = 16 * goal.size-targets::unpack l + 5

abbrev pub decreases-targets::put_each : goal.decreases-targets::put_each
decreases-targets::put_each l = 16 * goal.size-targets::put_each l + 4

abbrev pub decreases-targets::put_element : goal.decreases-targets::put_element
decreases-targets::put_element l = 16 * goal.size-targets::put_element l + 2

abbrev pub decreases-dicts::walk_entries : goal.decreases-dicts::walk_entries
decreases-dicts::walk_entries l = 16 * max (goal.size-dicts::walk_entries l) (most (λ x. the_size x) l.values.now) + 6

abbrev pub decreases-comparisons::walk_compared : goal.decreases-comparisons::walk_compared
decreases-comparisons::walk_compared l = 16 * max (goal.size-comparisons::walk_compared l) (most (λ x. the_size x) l.others.now) + 6

abbrev pub decreases-expressions::walk_joined : goal.decreases-expressions::walk_joined
decreases-expressions::walk_joined l = 16 * goal.size-expressions::walk_joined l + 6
