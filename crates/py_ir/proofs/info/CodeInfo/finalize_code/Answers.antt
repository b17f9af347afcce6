use Rattle.py_ir.specs.Final.{tables_of}
use Rattle.py_ir.proofs.FlatBlockLemmas.{if_err_then, if_ok_then}
use Rattle.py_ir.proofs.info.CodeInfo.finalize_code.Goals as goal

pub returns-in-Ok-clause-code : goal.returns-in-Ok-clause-code
returns-in-Ok-clause-code c = if_ok_then c.finalize.result _ _ c.finalize.ensures.taken_code (λ code h. h c.args.self c.in-Ok.ensures.taken)

pub returns-in-Ok-clause-clear : goal.returns-in-Ok-clause-clear
returns-in-Ok-clause-clear c = if_ok_then c.finalize.result _ _ c.finalize.ensures.taken_clear (λ code h. h c.args.self c.in-Ok.ensures.taken)

pub returns-in-Ok-clause-refused : goal.returns-in-Ok-clause-refused
returns-in-Ok-clause-refused c = if_err_then c.finalize.result _ _ c.finalize.ensures.taken_refused (λ e h. h c.args.self c.in-Ok.ensures.taken)

pub returns-in-Err-clause-refused : goal.returns-in-Err-clause-refused
returns-in-Err-clause-refused c = c.in-Err.ensures.refused (tables_of c.args.self) c.args.optimize
