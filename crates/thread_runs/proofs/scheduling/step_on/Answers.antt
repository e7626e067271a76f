use Rattle.std.proofs.Common.{◌≡◌, ◌+◌, true, false, Ok, subst, arith}
use Rattle.std.specs.Prelude.{option_copied}
use Rattle.thread_runs.specs.ThreadJudging.{StepsThread}
use Rattle.thread_runs.proofs.ScheduledSteps.{lent_ok, lent_err}
use Rattle.thread_runs.proofs.scheduling.step_on.Goals as goal

pub returns-in-Ok-true : goal.returns-in-Ok-true
returns-in-Ok-true c =
    let t = c.args.thread.now in
    let e : c.in-Ok-true.field-0 ≡ true = (let test = c.in-Ok-true.field-0-test in cc) in
    let st = subst (λ b. StepsThread (option_copied c.get-next.result) (record t.state { mem = c.swap.new.x }) c.thread_step-answer.new.state (Ok b)) e c.in-Ok-true.ensures in
    lent_ok t.state c.thread_step-answer.new.state c.args.memory.now c.swap.new.x c.swap-2.new.y t.world.now t.used (t.used + 1) c.get-next.result true
    c.swap.ensures.x_after c.swap-2.ensures.y_after (omega arith) c.get-next.ensures.lookup st

pub returns-in-Ok-false : goal.returns-in-Ok-false
returns-in-Ok-false c =
    let t = c.args.thread.now in
    let e : c.in-Ok-false.field-0 ≡ false = (let test = c.in-Ok-false.field-0-test in cc) in
    let st = subst (λ b. StepsThread (option_copied c.get-next.result) (record t.state { mem = c.swap.new.x }) c.thread_step-answer.new.state (Ok b)) e c.in-Ok-false.ensures in
    lent_ok t.state c.thread_step-answer.new.state c.args.memory.now c.swap.new.x c.swap-2.new.y t.world.now t.used (t.used) c.get-next.result false
    c.swap.ensures.x_after c.swap-2.ensures.y_after (omega arith) c.get-next.ensures.lookup st

pub returns-in-Err : goal.returns-in-Err
returns-in-Err c =
    let t = c.args.thread.now in
    lent_err t.state c.thread_step-answer.new.state c.args.memory.now c.swap.new.x c.swap-2.new.y t.world.now t.used c.get-next.result c.in-Err.stop
    c.swap.ensures.x_after c.swap-2.ensures.y_after c.get-next.ensures.lookup c.in-Err.ensures
