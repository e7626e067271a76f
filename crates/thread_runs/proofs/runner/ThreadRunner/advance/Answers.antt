use Rattle.std.proofs.Common.{◌<◌, length, refl, arith}
use Rattle.thread_runs.proofs.ScheduledSteps.{moves_at, stays_at}
use Rattle.thread_runs.proofs.runner.ThreadRunner.advance.Goals as goal

pub returns-in-Ok : goal.returns-in-Ok
returns-in-Ok c =
    let r = c.args.self.now in
    let long = r.threads.ok.0 in
    let below = c.if-len-place.false in
    let l : c.args.number < length r.threads.items = omega (arith, below, long, c.len.ensures) in
    moves_at r c.args.number c.index_mut.result.now c.step_on.new.thread c.step_on.new.memory l c.index_mut.ensures.value c.in-Ok.ensures

pub returns-in-Err : goal.returns-in-Err
returns-in-Err c =
    let r = c.args.self.now in
    let long = r.threads.ok.0 in
    let below = c.if-len-place.false in
    let l : c.args.number < length r.threads.items = omega (arith, below, long, c.len.ensures) in
    let s = stays_at r c.args.number c.index_mut.result.now c.step_on.new.thread c.step_on.new.memory c.in-Err.stop l c.index_mut.ensures.value c.in-Err.ensures in
    (refl, s.0, s.1)
