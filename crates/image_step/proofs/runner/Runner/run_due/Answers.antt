use Rattle.std.proofs.Common.{◌≡◌, ℕ, ◌+◌, ◌-◌, drop, take, sym, subst, arith}
use Rattle.image_step.specs.Scheduled.{EndsBy}
use Rattle.image_step.proofs.DueDeliveries.{due_more, due_none, ends_early, goes_no_further, waits}
use Rattle.image_step.proofs.runner.Runner.run_due.Goals as goal

pub loop-made-init : goal.loop-made-init
loop-made-init c = due_none c.args.self.now c.args.dues.now _ (omega arith) c.requires.rising

pub loop-made-preserved : goal.loop-made-preserved
loop-made-preserved c =
    let last = c.args.self.now.steps + c.args.n in
    due_more c.args.self.now c.loop-made.self c.reach.new.self c.args.dues.now last c.loop-made.made c.index-dues-made.result c.in_default.field-0 c.loop-made-test.true
    c.index-dues-made.is (omega (arith, c.if-last-due.false)) c.loop-made.invariant c.reach.ensures.starts c.in_default.ensures.reaches

pub returns-then-last-due-clause-ends : goal.returns-then-last-due-clause-ends
returns-then-last-due-clause-ends c =
    let dues = c.args.dues.now in
    let first = c.args.self.now.steps in
    let new = c.finish.new.self in
    let end = c.finish.result in
    let late = waits c.loop-made.self dues (first + c.args.n) c.loop-made.made c.index-dues-made.result c.loop-made-test.true c.index-dues-made.is
    c.loop-made.invariant.rises c.if-last-due.true in
    let e = c.finish.ensures.ends (drop c.loop-made.made dues) late in
    let n : first + c.args.n - first ≡ c.args.n = omega arith in
    subst (λ (k : ℕ). EndsBy end.halted new (drop end.made dues) end.steps k) n
    (subst (λ (k : ℕ). EndsBy end.halted new (drop k dues) end.steps (first + c.args.n - first)) (sym c.finish.ensures.made) e)

pub returns-in-Err-clause-goes_on : goal.returns-in-Err-clause-goes_on
returns-in-Err-clause-goes_on c =
    let dues = c.args.dues.now in
    let first = c.args.self.now.steps in
    let b = c.loop-made.self in
    let new = c.reach.new.self in
    let low = c.loop-made.invariant.low in
    let grows = c.reach.ensures.grows in
    let at : new.steps ≡ first + (new.steps - first) = omega (arith, low, grows) in
    let early = ends_early b new dues first (new.steps - first) c.args.n c.loop-made.made c.index-dues-made.result c.in-Err.halted c.loop-made-test.true
    c.index-dues-made.is (omega (arith, c.if-last-due.false)) c.loop-made.invariant.rises at c.in-Err.ensures.reaches in
    goes_no_further c.args.self.now b new (take c.loop-made.made dues) c.loop-made.invariant.goes early.0
