use Rattle.address_space.proofs.SweptRanges.{IsSwept}
use Rattle.address_space.proofs.ranges.free_beside.Given as goal

abbrev pub invariant-loop-extent : goal.invariant-loop-extent
invariant-loop-extent l = IsSwept l.taken l.extent-index l.free.items l.lo
