use Rattle.std.proofs.Common.{◌≡◌, ◌≤◌, ◌<◌, refl, arith}
use Rattle.guest_findings.specs.Findings.{most_patched_steps}
use Rattle.guest_findings.proofs.FollowedStates.{none_so_far, more_so_far, until_reached, until_stopped, until_most}
use Rattle.guest_findings.proofs.following.follow.Goals as goal

pub loop-turn-init : goal.loop-turn-init
loop-turn-init c = none_so_far c.args.runner.now c.args.number c.requires

pub returns-then-number-outside : goal.returns-then-number-outside
returns-then-number-outside c =
    let most : c.loop-turn.turn ≤ most_patched_steps = omega arith in
    let at : c.args.number ≤ c.loop-turn.runner.outside = omega arith in
    until_reached c.args.runner.now c.loop-turn.runner c.args.number c.loop-turn.turn c.loop-turn.invariant most at

pub returns-then-not-advance : goal.returns-then-not-advance
returns-then-not-advance c =
    let most : c.loop-turn.turn ≤ most_patched_steps = omega arith in
    until_stopped c.args.runner.now c.loop-turn.runner c.advance.new.runner c.args.number c.loop-turn.turn c.loop-turn.invariant most
    c.if-not-advance.ensures.shows

pub loop-turn-preserved : goal.loop-turn-preserved
loop-turn-preserved c =
    let below : c.loop-turn.runner.outside < c.args.number = omega arith in
    let f = c.if-not-advance.ensures in
    more_so_far c.args.runner.now c.loop-turn.runner c.advance.new.runner c.args.number c.loop-turn.turn c.loop-turn.invariant below
    f.starts (f.steps refl) f.shows

pub returns : goal.returns
returns c =
    let most : c.loop-turn.turn ≡ most_patched_steps = omega arith in
    until_most c.args.runner.now c.loop-turn.runner c.args.number c.loop-turn.turn c.loop-turn.invariant most
