use Rattle.std.proofs.Common.{Some, None, refl, arith, ◌∙◌}
use Rattle.image_step.proofs.Steps.{along_more, along_none, along_same, alike_stopped, goes_on, goes_plain, stops_here}
use Rattle.image_step.proofs.runner.Runner.run.Goals as goal

pub loop-turn-init : goal.loop-turn-init
loop-turn-init c = along_none c.args.self.now

pub loop-turn-preserved : goal.loop-turn-preserved
loop-turn-preserved c =
    let a = rw c.in_default.is at c.advance.ensures.advances in
    along_more c.args.self.now c.loop-turn.self c.advance.new.self c.loop-turn.turn c.loop-turn.invariant c.advance.ensures.starts a

pub returns-in-Some-clause-goes : goal.returns-in-Some-clause-goes
returns-in-Some-clause-goes c =
    let a = rw c.in-Some.is at c.advance.ensures.advances in
    let new = c.advance.new.self in
    let same = alike_stopped c.loop-turn.self new c.in-Some.stop c.advance.ensures.starts a in
    goes_plain c.args.self.now new c.loop-turn.turn c.args.n (record { steps = c.loop-turn.turn; stop = Some c.in-Some.stop }) (along_same c.args.self.now c.loop-turn.self new c.loop-turn.turn c.loop-turn.invariant same) refl
    (stops_here c.loop-turn.self new c.loop-turn.turn c.args.n c.in-Some.stop a c.loop-turn-test.true)

pub returns-in-Some-clause-goes_on : goal.returns-in-Some-clause-goes_on
returns-in-Some-clause-goes_on c =
    let a = rw c.in-Some.is at c.advance.ensures.advances in
    let new = c.advance.new.self in
    let same = alike_stopped c.loop-turn.self new c.in-Some.stop c.advance.ensures.starts a in
    goes_on c.args.self.now new c.loop-turn.turn (along_same c.args.self.now c.loop-turn.self new c.loop-turn.turn c.loop-turn.invariant same)

pub returns-clause-goes : goal.returns-clause-goes
returns-clause-goes c = goes_plain c.args.self.now c.loop-turn.self c.loop-turn.turn c.args.n (record { steps = c.args.n; stop = None }) c.loop-turn.invariant (omega arith) refl

pub returns-clause-goes_on : goal.returns-clause-goes_on
returns-clause-goes_on c = goes_on c.args.self.now c.loop-turn.self c.loop-turn.turn c.loop-turn.invariant

pub returns-in-Some-clause-steps : goal.returns-in-Some-clause-steps
returns-in-Some-clause-steps c =
    let a = rw c.in-Some.is at c.advance.ensures.advances in
    a.1 ∙ c.loop-turn.invariant.steps

pub returns-in-Some-clause-ends : goal.returns-in-Some-clause-ends
returns-in-Some-clause-ends c =
    let a = rw c.in-Some.is at c.advance.ensures.advances in
    stops_here c.loop-turn.self c.advance.new.self c.loop-turn.turn c.args.n c.in-Some.stop a c.loop-turn-test.true
