-- Which expressions are starred, and which are attributes.
use Rattle.std.specs.Prelude.{Bool, true, false, ◌||◌}
use Rattle.py_tree.specs.Tree as tree

abbrev pub is_starred : tree.Expr → Bool
is_starred (tree.Starred at e) = true
is_starred other = false

abbrev pub any_starred : tree.Exprs → Bool
any_starred tree.no_exprs = false
any_starred (tree.more_exprs e es) = is_starred e || any_starred es

-- it is called as a method
abbrev pub is_attribute : tree.Expr → Bool
is_attribute (tree.Attribute at e attr) = true
is_attribute other = false
