use Rattle.loader_form.proofs.StubBytes.{fits_more, records_more}
use Rattle.loader_form.proofs.stub.push_records.Goals as goal

pub loop-run-preserved : goal.loop-run-preserved
loop-run-preserved c =
    let at = c.args.at in
    let runs = c.args.runs.now in
    let i = c.loop-run.run-index in (
      fits_more at runs i (record { addr = 0; first = 0; count = 0 }) c.loop-run-test.true c.loop-run.invariant.0,
      records_more at runs i (record { addr = 0; first = 0; count = 0 }) c.loop-run.out.items c.push_record.new.out.items _ c.loop-run-test.true c.in_ok-push_record.ensures c.loop-run.invariant.1,
    )
