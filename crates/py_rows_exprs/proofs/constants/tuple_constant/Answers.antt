use Rattle.std.proofs.Common.{refl}
use Rattle.py_tree.proofs.View.{literal_Tuple}
use Rattle.py_rows_exprs.proofs.constants.tuple_constant.Goals as goal

pub returns : goal.returns
returns c = rw (c.in_ok-field.ensures, c.in_ok-items.ensures, literal_Tuple) refl
