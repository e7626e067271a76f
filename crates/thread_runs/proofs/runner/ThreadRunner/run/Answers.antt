use Rattle.std.proofs.Common.{◌<◌, length, get_or, arith}
use Rattle.thread_runs.specs.Running.{guest_in}
use Rattle.thread_runs.proofs.ScheduledSteps.{at_number, goes_on}
use Rattle.thread_runs.proofs.runner.ThreadRunner.run.Goals as goal

pub loop-at-preserved : goal.loop-at-preserved
loop-at-preserved c =
    let schedule = c.args.schedule.now in
    let place = c.loop-at.at in
    let test = c.loop-at-test.true in
    let l : place < length schedule = omega (arith, test) in
    goes_on schedule place (get_or schedule place 0) (guest_in c.args.self.now) (guest_in c.loop-at.self) (guest_in c.advance.new.self)
    (at_number schedule place l) c.loop-at.invariant c.in_ok-advance.ensures
