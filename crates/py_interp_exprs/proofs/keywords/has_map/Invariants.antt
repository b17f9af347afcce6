use Rattle.std.proofs.Common.{◌≡◌, drop}
use Rattle.py_tree.specs.View.{expr_tree, keywords}
use Rattle.py_interp_exprs.specs.Keywords.{any_unpacked}
use Rattle.py_interp_exprs.proofs.keywords.has_map.Given as goal

abbrev pub invariant-loop-keyword : goal.invariant-loop-keyword
invariant-loop-keyword l = any_unpacked (keywords expr_tree (drop l.keyword-index l.keywords)) ≡ any_unpacked (keywords expr_tree l.keywords)
