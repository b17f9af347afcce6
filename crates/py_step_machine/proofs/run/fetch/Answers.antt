use Rattle.std.proofs.Common.{◌∙◌}
use Rattle.py_bytecode.specs.View.{object}
use Rattle.py_step_decode.specs.Instructions.{instr_of}
use Rattle.py_decode.specs.Reading.{read_of}
use Rattle.py_step_machine.proofs.FetchLemmas.{nothing_made, nothing_read, one_made}
use Rattle.py_step_machine.proofs.run.fetch.Goals as goal

pub returns-in_err-read : goal.returns-in_err-read
returns-in_err-read c = rw c.from_residual.ensures (nothing_read (object c.args.code.now) c.args.place (c.in_err-read.ensures ∙ c.requires c.args.place))

pub returns-in_err-instr : goal.returns-in_err-instr
returns-in_err-instr c =
    rw c.from_residual-in_err-instr.ensures (nothing_made (object c.args.code.now) c.args.place (read_of c.in_ok-read.read) (c.in_ok-read.ensures ∙ c.requires c.args.place) c.in_err-instr.ensures)

pub returns : goal.returns
returns c = one_made (object c.args.code.now) c.args.place (read_of c.in_ok-read.read) (instr_of c.in_ok-instr.instr) (c.in_ok-read.ensures ∙ c.requires c.args.place) c.in_ok-instr.ensures
