mod ChainLoops
mod Choices
mod Defaults
mod DictLoop
mod ElementLoops
mod KeywordLoops
mod LinkLoop
mod MapLoops
mod Otherwise
mod Unpacking
use Rattle.py_interp_exprs.proofs.+walk.Answers.ChainLoops.{shorts_decided, shorts_ended, shorts_go_on, tests_decided, tests_ended, tests_go_on}
use Rattle.py_interp_exprs.proofs.+walk.Answers.Choices.{call_packs, call_places, display_ended, display_grouped, display_grouped_ended, display_plain, links_some, parts_ended, parts_joined, text_alone}
use Rattle.py_interp_exprs.proofs.+walk.Answers.Defaults.{lambda_made, positionals_end, positionals_ended}
use Rattle.py_interp_exprs.proofs.+walk.Answers.DictLoop.{entries_end, entries_go_on}
use Rattle.py_interp_exprs.proofs.+walk.Answers.ElementLoops.{group_plain, groups_go_on}
use Rattle.py_interp_exprs.proofs.+walk.Answers.KeywordLoops.{values_go_on}
use Rattle.py_interp_exprs.proofs.+walk.Answers.LinkLoop.{last_ended, link_ended, links_decided, links_go_on, right_ended}
use Rattle.py_interp_exprs.proofs.+walk.Answers.MapLoops.{keyword_only_ended, keyword_only_goes_on, maps_go_on, positional_ended, positional_go_on}
use Rattle.py_interp_exprs.proofs.+walk.Answers.Otherwise.{callee_ended, other_callee}
use Rattle.py_interp_exprs.proofs.+walk.Answers.Unpacking.{unpack_ended, unpacking_unpacks}
use Rattle.py_interp_exprs.proofs.+walk.Goals as goal

pub conditions::walk_shorts-loop-i-preserved : goal.conditions::walk_shorts-loop-i-preserved
conditions::walk_shorts-loop-i-preserved = shorts_go_on

pub conditions::walk_shorts-returns-then-asked-decides : goal.conditions::walk_shorts-returns-then-asked-decides
conditions::walk_shorts-returns-then-asked-decides = shorts_decided

pub conditions::walk_shorts-returns-in_err-asked : goal.conditions::walk_shorts-returns-in_err-asked
conditions::walk_shorts-returns-in_err-asked = shorts_ended

pub conditions::walk_tests-loop-i-preserved : goal.conditions::walk_tests-loop-i-preserved
conditions::walk_tests-loop-i-preserved = tests_go_on

pub conditions::walk_tests-returns-then-truth-decides : goal.conditions::walk_tests-returns-then-truth-decides
conditions::walk_tests-returns-then-truth-decides = tests_decided

pub conditions::walk_tests-returns-in_err-truth : goal.conditions::walk_tests-returns-in_err-truth
conditions::walk_tests-returns-in_err-truth = tests_ended

pub displays::walk_display-returns-then-has_star : goal.displays::walk_display-returns-then-has_star
displays::walk_display-returns-then-has_star = display_grouped

pub displays::walk_display-returns-in_err-groups : goal.displays::walk_display-returns-in_err-groups
displays::walk_display-returns-in_err-groups = display_grouped_ended

pub displays::walk_display-returns : goal.displays::walk_display-returns
displays::walk_display-returns = display_plain

pub displays::walk_display-returns-in_err-values : goal.displays::walk_display-returns-in_err-values
displays::walk_display-returns-in_err-values = display_ended

pub calls::walk_call-returns-then-is_packed : goal.calls::walk_call-returns-then-is_packed
calls::walk_call-returns-then-is_packed = call_packs

pub calls::walk_call-returns : goal.calls::walk_call-returns
calls::walk_call-returns = call_places

pub comparisons::walk_compared-walk_links-requires : goal.comparisons::walk_compared-walk_links-requires
comparisons::walk_compared-walk_links-requires = links_some

pub expressions::walk_joined-returns-in-Some : goal.expressions::walk_joined-returns-in-Some
expressions::walk_joined-returns-in-Some = text_alone

pub expressions::walk_joined-returns : goal.expressions::walk_joined-returns
expressions::walk_joined-returns = parts_joined

pub expressions::walk_joined-returns-in_err-values : goal.expressions::walk_joined-returns-in_err-values
expressions::walk_joined-returns-in_err-values = parts_ended

pub functions::walk_lambda-returns : goal.functions::walk_lambda-returns
functions::walk_lambda-returns = lambda_made

pub functions::walk_positionals-returns : goal.functions::walk_positionals-returns
functions::walk_positionals-returns = positionals_end

pub functions::walk_positionals-returns-in_err-values : goal.functions::walk_positionals-returns-in_err-values
functions::walk_positionals-returns-in_err-values = positionals_ended

pub dicts::walk_entries-loop-i-preserved : goal.dicts::walk_entries-loop-i-preserved
dicts::walk_entries-loop-i-preserved = entries_go_on

pub dicts::walk_entries-returns : goal.dicts::walk_entries-returns
dicts::walk_entries-returns = entries_end

pub elements::walk_groups-loop-elt-preserved : goal.elements::walk_groups-loop-elt-preserved
elements::walk_groups-loop-elt-preserved = groups_go_on

pub elements::walk_groups-returns-in_err-run : goal.elements::walk_groups-returns-in_err-run
elements::walk_groups-returns-in_err-run = group_plain

pub keywords::walk_keyword_values-loop-keyword-preserved : goal.keywords::walk_keyword_values-loop-keyword-preserved
keywords::walk_keyword_values-loop-keyword-preserved = values_go_on

pub comparisons::walk_links-loop-i-preserved : goal.comparisons::walk_links-loop-i-preserved
comparisons::walk_links-loop-i-preserved = links_go_on

pub comparisons::walk_links-returns-then-not-asked : goal.comparisons::walk_links-returns-then-not-asked
comparisons::walk_links-returns-then-not-asked = links_decided

pub comparisons::walk_links-returns-in_err-right : goal.comparisons::walk_links-returns-in_err-right
comparisons::walk_links-returns-in_err-right = right_ended

pub comparisons::walk_links-returns-in_err-asked : goal.comparisons::walk_links-returns-in_err-asked
comparisons::walk_links-returns-in_err-asked = link_ended

pub comparisons::walk_links-returns-in_err-right-2 : goal.comparisons::walk_links-returns-in_err-right-2
comparisons::walk_links-returns-in_err-right-2 = last_ended

pub keywords::walk_maps-loop-keyword-preserved : goal.keywords::walk_maps-loop-keyword-preserved
keywords::walk_maps-loop-keyword-preserved = maps_go_on

pub functions::walk_positional-loop-arg-preserved : goal.functions::walk_positional-loop-arg-preserved
functions::walk_positional-loop-arg-preserved = positional_go_on

pub functions::walk_positional-returns-in_err-values : goal.functions::walk_positional-returns-in_err-values
functions::walk_positional-returns-in_err-values = positional_ended

pub functions::walk_keyword_only-loop-arg-preserved : goal.functions::walk_keyword_only-loop-arg-preserved
functions::walk_keyword_only-loop-arg-preserved = keyword_only_goes_on

pub functions::walk_keyword_only-returns-in_err-run : goal.functions::walk_keyword_only-returns-in_err-run
functions::walk_keyword_only-returns-in_err-run = keyword_only_ended

pub calls::walk_callee-returns-in_ok-value-in_default : goal.calls::walk_callee-returns-in_ok-value-in_default
calls::walk_callee-returns-in_ok-value-in_default = other_callee

pub calls::walk_callee-returns-in_err-value-in_default : goal.calls::walk_callee-returns-in_err-value-in_default
calls::walk_callee-returns-in_err-value-in_default = callee_ended

pub targets::unpack-returns : goal.targets::unpack-returns
targets::unpack-returns = unpacking_unpacks

pub targets::unpack-returns-in_err-answer : goal.targets::unpack-returns-in_err-answer
targets::unpack-returns-in_err-answer = unpack_ended
