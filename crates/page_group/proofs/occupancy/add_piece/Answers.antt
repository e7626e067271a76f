use Rattle.std.proofs.Common.{◌<◌, length, arith}
use Rattle.pun_base.specs.Ranges.{ends}
use Rattle.page_group.proofs.OccupiedOffsets.{adds_none, adds_more, adds_all}
use Rattle.page_group.proofs.occupancy.add_piece.Goals as goal

pub loop-place-init : goal.loop-place-init
loop-place-init c =
    adds_none c.args.piece.lo c.args.piece.hi c.count_below-first.result c.args.pages.now c.args.sets.now c.requires.whole
    c.count_below-first.ensures.below c.count_below-first.ensures.within

pub loop-place-preserved : goal.loop-place-preserved
loop-place-preserved c =
    let now = c.loop-place.sets in
    let place = c.loop-place.place in
    let within : place < length now = omega arith in
    adds_more (ends c.args.piece) place c.args.pages.now c.args.sets.now now c.add_to_page.new.set _
    within c.loop-place.invariant c.add_to_page.ensures

pub returns : goal.returns
returns c =
    adds_all c.args.piece.lo c.args.piece.hi c.count_below-end.result c.loop-place.place c.args.pages.now c.args.sets.now c.loop-place.sets
    c.loop-place.invariant c.loop-place-test.false c.count_below-end.ensures.above
