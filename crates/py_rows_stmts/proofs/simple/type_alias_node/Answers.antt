use Rattle.std.proofs.Common.{refl}
use Rattle.py_tree.proofs.View.{tree_TypeAlias}
use Rattle.py_rows_stmts.proofs.simple.type_alias_node.Goals as goal

pub returns : goal.returns
returns c = rw (c.in_ok-name.ensures, c.in_ok-name-2.ensures, c.in_ok-type_params.ensures, c.in_ok-value.ensures, tree_TypeAlias) refl
