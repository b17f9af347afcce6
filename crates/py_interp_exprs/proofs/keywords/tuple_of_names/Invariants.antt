use Rattle.std.proofs.Common.{◌≡◌, ◌++◌, drop, map}
use Rattle.py_tree.specs.View.{expr_tree, keywords}
use Rattle.py_bytecode.specs.Objects.{const_list}
use Rattle.py_bytecode.specs.View.{constant}
use Rattle.py_interp_exprs.specs.Keywords.{names_of}
use Rattle.py_interp_exprs.proofs.keywords.tuple_of_names.Given as goal

abbrev pub invariant-loop-keyword : goal.invariant-loop-keyword
invariant-loop-keyword l = const_list (names_of (keywords expr_tree l.keywords)) ≡ map constant l.names.items ++ const_list (names_of (keywords expr_tree (drop l.keyword-index l.keywords)))
