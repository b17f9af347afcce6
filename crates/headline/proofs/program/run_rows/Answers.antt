use Rattle.std.proofs.Common.{ap}
use Rattle.py_devices.specs.Memory.{Shelf}
use Rattle.headline.proofs.RunLemmas.{owes_over}
use Rattle.headline.proofs.program.run_rows.Goals as goal

pub returns : goal.returns
returns c =
    let r = c.run-report.result in
    owes_over c.args.rows c.new-source.result c.args.words.now r.status r.code c.new-out.result.held c.new-err.result.held
    c.run-report.new.out.held c.run-report.new.err.held
    c.new-source.ensures (ap (λ (x : Shelf). x.held) c.new-out.ensures) (ap (λ (x : Shelf). x.held) c.new-err.ensures)
    (record {
      fits = c.run-report.ensures.form;
      is_due = c.run-report.ensures.due;
      read = c.run-report.ensures.read;
      reported = c.run-report.ensures.reported;
      codes_due = c.run-report.ensures.code;
      out = c.run-report.ensures.out;
      err = c.run-report.ensures.err;
    })
