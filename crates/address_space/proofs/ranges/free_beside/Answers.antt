use Rattle.std.proofs.Common.{arith}
use Rattle.address_space.specs.declared.extent.Extent.{Extent}
use Rattle.address_space.proofs.SweptRanges.{swept_none, swept_more, swept_ascends, swept_all}
use Rattle.address_space.proofs.ranges.free_beside.Goals as goal

pub loop-extent-init : goal.loop-extent-init
loop-extent-init c = rw c.new-free.ensures.items (swept_none c.args.taken.now)

pub loop-extent-preserved : goal.loop-extent-preserved
loop-extent-preserved c =
    let blank : Extent = record { lo = 0; hi = 0 } in
    let items = c.in_ok-add_below.ensures {u = tt} in
    rw (items, c.min.ensures, c.max-lo.ensures)
    (swept_more c.args.taken.now c.loop-extent.extent-index c.loop-extent.free.items c.loop-extent.lo blank (omega arith) c.requires.sorted c.requires.some c.loop-extent.invariant)

pub returns-clause-ascending : goal.returns-clause-ascending
returns-clause-ascending c =
    let items = c.in_ok-add_below-2.ensures {u = tt} in
    rw items (swept_ascends c.args.taken.now c.loop-extent.extent-index c.loop-extent.free.items c.loop-extent.lo c.loop-extent.invariant)

pub returns-clause-free : goal.returns-clause-free
returns-clause-free c t n some =
    let items = c.in_ok-add_below-2.ensures {u = tt} in
    rw items (swept_all c.args.taken.now c.loop-extent.extent-index c.loop-extent.free.items c.loop-extent.lo t n (omega arith) c.loop-extent.invariant some)
