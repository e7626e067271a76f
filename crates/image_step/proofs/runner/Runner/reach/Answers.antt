use Rattle.std.proofs.Common.{◌≡◌, [], ◌∷◌, ◌∙◌, arith}
use Rattle.image_step.proofs.DueDeliveries.{goes_on_twice, goes_same, goes_taken, unfit_same}
use Rattle.image_step.proofs.Steps.{IsAlike}
use Rattle.image_step.proofs.runner.Runner.reach.Goals as goal

pub returns-in-Some-clause-reaches : goal.returns-in-Some-clause-reaches
returns-in-Some-clause-reaches c =
    let e = rw c.in-Some.is at c.run.ensures.ends in
    let steps = c.run.ensures.steps in
    let less = e.0 in
    let room = c.requires.room in
    rw c.in-Some.is (c.run.ensures.goes_on, omega (arith, steps, less, room), e.1)

pub returns-in-Ok-clause-reaches : goal.returns-in-Ok-clause-reaches
returns-in-Ok-clause-reaches c =
    let old = c.args.self.now in
    let mid = c.run.new.self in
    let new = c.deliver.new.self in
    let at : mid.steps ≡ c.args.due.now.step = omega (arith, c.run.ensures.steps, rw c.in_default.is at c.run.ensures.ends, c.requires.room) in
    let d = rw c.in-Ok.is at c.deliver.ensures.delivers in
    (goes_on_twice old mid new [] (c.args.due.now ∷ []) c.run.ensures.goes_on (goes_taken mid new c.args.due.now at c.deliver.ensures.starts d), d.2 ∙ at)

pub returns-in-Err-clause-reaches : goal.returns-in-Err-clause-reaches
returns-in-Err-clause-reaches c =
    let old = c.args.self.now in
    let mid = c.run.new.self in
    let new = c.deliver.new.self in
    let at : mid.steps ≡ c.args.due.now.step = omega (arith, c.run.ensures.steps, rw c.in_default.is at c.run.ensures.ends, c.requires.room) in
    let d = rw c.in-Err.is at c.deliver.ensures.delivers in
    let same : IsAlike mid new = record { starts = c.deliver.ensures.starts; here = d.1; steps = d.2; outside = d.3; quiet = d.4 } in
    (goes_same old mid new [] c.run.ensures.goes_on same, d.2 ∙ at, unfit_same mid new c.args.due.now.delivery c.in-Err.unfit.addr same d.0)
