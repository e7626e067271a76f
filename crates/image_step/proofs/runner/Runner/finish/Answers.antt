use Rattle.std.proofs.Common.{◌≡◌, ℕ, ◌+◌, ◌-◌, true, Option, sym, subst, arith}
use Rattle.image_step.specs.declared.delivery.Halted.{Halted}
use Rattle.image_step.specs.Scheduled.{EndsBy, rise}
use Rattle.image_step.proofs.DueDeliveries.{ends_by}
use Rattle.image_step.proofs.runner.Runner.finish.Goals as goal

pub returns-clause-ends : goal.returns-clause-ends
returns-clause-ends c = λ left h.
    let first = c.args.first in
    let last = c.args.last in
    let new = c.run-end.new.self in
    let some = c.run-end.result.steps in
    let all = last - c.args.self.now.steps in
    let steps = c.run-end.ensures.steps in
    let begun = c.requires.begun in
    let room = c.requires.room in
    let whole : last ≡ first + (last - first) = omega (arith, begun, room) in
    let at : new.steps ≡ first + (new.steps - first) = omega (arith, steps, begun) in
    let sum : new.steps - first + all ≡ last - first + some = omega (arith, steps, begun, room) in
    subst (λ (o : Option Halted). EndsBy o new left (new.steps - first) (last - first)) (sym c.halted_by.ensures)
    (ends_by new c.run-end.result.stop left first (new.steps - first) (last - first) some all at sum
    (subst (λ (n : ℕ). rise n left ≡ true) whole h) c.run-end.ensures.ends)
