use Rattle.std.proofs.Common.{refl}
use Rattle.py_tree.proofs.View.{tree_AsyncFunctionDef}
use Rattle.py_rows_stmts.proofs.definitions.async_function_def_node.Goals as goal

pub returns : goal.returns
returns c = rw (c.in_ok-name.ensures, c.in_ok-name-2.ensures, c.in_ok-decorator_list.ensures, tree_AsyncFunctionDef) refl
