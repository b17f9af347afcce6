use Rattle.std.proofs.Common.{refl}
use Rattle.py_tree.proofs.View.{tree_Match}
use Rattle.py_rows_stmts.proofs.compound.match_node.Goals as goal

pub returns : goal.returns
returns c = rw (c.in_ok-subject.ensures, c.in_ok-subject-2.ensures, c.in_ok-cases.ensures, tree_Match) refl
