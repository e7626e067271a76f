use Rattle.std.proofs.Common.{◌≡◌, length}
use Rattle.address_space.specs.Marks.{MarksMore}
use Rattle.address_space.specs.Ranges.{IsPlaceAmong}
use Rattle.address_space.proofs.marked_places.mark_ranges.Given as goal

abbrev pub invariant-loop-range : goal.invariant-loop-range
invariant-loop-range l = record {
  long : length l.words ≡ length l.fn.words;
  marked : MarksMore l.fn.words (IsPlaceAmong l.window l.shift l.ranges l.range-index) l.words;
}
