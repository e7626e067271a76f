use Rattle.std.proofs.Common.{arith}
use Rattle.address_space.proofs.SplitRanges.{put_is, left_below, left_above}
use Rattle.address_space.proofs.ranges.split.Goals as goal

pub returns-else-range-whole-clause-items : goal.returns-else-range-whole-clause-items
returns-else-range-whole-clause-items c d = put_is c.args.free.now.items c.args.place c.index-whole.result.now _ d c.args.range.lo c.args.range.hi (omega arith) c.index-whole.ensures (left_below c.index-whole.result.now c.args.range.lo c.args.range.hi (omega arith) (omega arith))

pub returns-then-range-whole-2-clause-items : goal.returns-then-range-whole-2-clause-items
returns-then-range-whole-2-clause-items c d = put_is c.args.free.now.items c.args.place c.index-whole.result.now _ d c.args.range.lo c.args.range.hi (omega arith) c.index-whole.ensures (left_above c.index-whole.result.now c.args.range.lo c.args.range.hi (omega arith) (omega arith))
