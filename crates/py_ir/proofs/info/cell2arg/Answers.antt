use Rattle.py_ir.proofs.info.cell2arg.Goals as goal

pub returns-else-is_any : goal.returns-else-is_any
returns-else-is_any c = c.is_any.ensures.none c.if-is_any.false
