use Rattle.std.proofs.Common.{arith}
use Rattle.start_list.specs.Turning.{view_of}
use Rattle.scheme_search.specs.Shared.{by_pick}
use Rattle.scheme_search.proofs.FirstChoice.{first_at, none_next}
use Rattle.scheme_near.specs.declared.choice.Choice.{Choice}
use Rattle.scheme_near.specs.Choices.{IsGoodOf, offset_of}
use Rattle.scheme_near.proofs.ChosenPlans.{good_inside}
use Rattle.scheme_near.proofs.choice.in_victim.Goals as goal

pub returns-in-Some : goal.returns-in-Some
returns-in-Some c =
    first_at offset_of (by_pick (λ (d : Choice). d.pick))
    (IsGoodOf (view_of c.args.here.now.turn) c.args.here.now.site c.args.victim.now) c.loop-offset.offset c.in-Some.choice
    (λ d h. c.loop-offset.invariant d h) c.in-Some.ensures

pub loop-offset-init : goal.loop-offset-init
loop-offset-init c =
    λ d h. (good_inside c.args.here.now c.args.victim.now c.requires.beside c.requires.room d h).0

pub loop-offset-preserved : goal.loop-offset-preserved
loop-offset-preserved c =
    none_next offset_of (by_pick (λ (d : Choice). d.pick)) (IsGoodOf (view_of c.args.here.now.turn) c.args.here.now.site c.args.victim.now) c.loop-offset.offset
    (λ d h. c.loop-offset.invariant d h) (λ d h. c.in_default.ensures d h)

pub returns : goal.returns
returns c = λ d h.
    let k = good_inside c.args.here.now c.args.victim.now c.requires.beside c.requires.room d h in
    let l = c.loop-offset.invariant d h in
    omega (arith, k.1, l)
