use Rattle.std.proofs.Common.{refl}
use Rattle.py_tree.proofs.View.{tree_Call}
use Rattle.py_rows_exprs.proofs.operations.call_node.Goals as goal

pub returns : goal.returns
returns c = rw (c.in_ok-func.ensures, c.in_ok-func-2.ensures, c.in_ok-args.ensures, c.in_ok-keywords.ensures, tree_Call) refl
