use Rattle.std.proofs.Common.{◌-◌}
use Rattle.address_space.specs.Blocks.{flat, begin}
use Rattle.address_space.proofs.LeastPlaces.{NoneBelow}
use Rattle.address_space.proofs.BlockSearches.{AllAbove}
use Rattle.address_space.proofs.search.least.Given as goal

abbrev pub invariant-loop-next : goal.invariant-loop-next
invariant-loop-next l = record {
  none : NoneBelow l.window (flat l.blocks) (begin l.blocks l.next);
  above : AllAbove l.window (flat l.blocks) l.low;
}

abbrev pub decreases-loop-next : goal.decreases-loop-next
decreases-loop-next l = l.end - l.next
