use Rattle.std.proofs.Common.{sym, arith}
use Rattle.elf_read.proofs.SegmentSearch.{no_segment, begins_below, all_above, covered, not_covered}
use Rattle.elf_read.proofs.find.find_segment.Goals as goal

pub returns-then-below-eq0 : goal.returns-then-below-eq0
returns-then-below-eq0 c =
    sym (all_above c.args.loads.now c.args.addr c.count_below-below.result no_segment c.count_below-below.ensures.parted c.if-below-eq0.true)

pub overflow_sub-addr : goal.overflow_sub-addr
overflow_sub-addr c = begins_below c.args.loads.now c.args.addr c.count_below-below.result _ c.count_below-below.ensures.parted (omega arith)

pub returns-then-addr-segment : goal.returns-then-addr-segment
returns-then-addr-segment c =
    sym (covered c.args.loads.now c.args.addr c.count_below-below.result _ c.requires c.count_below-below.ensures.bound c.count_below-below.ensures.parted (omega arith) c.if-addr-segment.true)

pub returns-else-addr-segment : goal.returns-else-addr-segment
returns-else-addr-segment c =
    sym (not_covered c.args.loads.now c.args.addr c.count_below-below.result _ c.requires c.count_below-below.ensures.bound c.count_below-below.ensures.parted (omega arith) c.if-addr-segment.false)
