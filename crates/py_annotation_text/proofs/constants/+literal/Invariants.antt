use Rattle.std.proofs.Common.{◌≡◌, ◌+◌, ◌*◌, ◌++◌, string_bytes, drop}
use denote.Shadow.{shadow}
use denote.Text.{Utf8}
use Rattle.py_tree.specs.View.{literal_list, literal_of}
use Rattle.py_annotation_text.specs.Constants.{literal_texts}
use Rattle.py_annotation_text.specs.Lists.{comma, separated_text}
use Rattle.py_annotation_text.proofs.constants.+literal.Given as goal

abbrev pub decreases-push_literal : goal.decreases-push_literal
decreases-push_literal l = 4 * goal.size-push_literal l

abbrev pub decreases-push_tuple : goal.decreases-push_tuple
decreases-push_tuple l = 4 * goal.size-push_tuple l + 2

abbrev pub decreases-push_literals : goal.decreases-push_literals
decreases-push_literals l = 4 * goal.size-push_literals l + 1

abbrev pub invariant-push_literals-loop-item : goal.invariant-push_literals-loop-item
invariant-push_literals-loop-item l =
    shadow (Utf8 l.before)
    × (string_bytes l.out ++ separated_text l.before comma (literal_texts (literal_list literal_of (drop l.item-index l.items)))
    ≡ string_bytes l.initial.out ++ separated_text l.initial.before comma (literal_texts (literal_list literal_of l.items)))
