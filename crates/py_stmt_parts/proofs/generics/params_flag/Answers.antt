use Rattle.std.proofs.Common.{sym}
use Rattle.py_stmt_parts.proofs.DefaultLemmas.{flag_there}
use Rattle.py_stmt_parts.proofs.generics.params_flag.Goals as goal

pub returns-in-len1-up : goal.returns-in-len1-up
returns-in-len1-up c = sym (flag_there c.args.params.now c.in-len1-up.len_at_least)
