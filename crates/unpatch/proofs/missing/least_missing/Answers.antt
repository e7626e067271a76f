use Rattle.unpatch.proofs.BytesAndRunsSoFar.{run_missed}
use Rattle.unpatch.proofs.missing.least_missing.Goals as goal

pub loop-run-preserved : goal.loop-run-preserved
loop-run-preserved c = (
  run_missed c.args.patched.now.bytes c.loop-run.run-index c.run-item.result c.run-item.result c.args.runs.now c.loop-run.least c.missing_of-least.result _
      c.loop-run-test.true c.run-item.is c.missing_of-least.ensures.least c.loop-run.invariant.0,
  c.missing_of-least.ensures.low,
)
