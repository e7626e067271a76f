use Rattle.std.proofs.Common.{arith}
use Rattle.address_space.proofs.MarkedPlaces.{one_range_more}
use Rattle.address_space.proofs.marked_places.mark_ranges.Goals as goal

pub loop-range-preserved : goal.loop-range-preserved
loop-range-preserved c = record {
  long = omega (arith, c.loop-range.invariant.long, c.mark_range.ensures.length);
  marked = one_range_more c.args.window c.args.shift c.loop-range.range-index c.args.ranges.now _ c.args.words.now c.loop-range.words c.mark_range.new.words
      (omega arith) c.loop-range.invariant.marked c.mark_range.ensures.marked;
}
