use Rattle.std.proofs.Common.{◌≡◌, ◌++◌, length}
use Rattle.address_space.specs.Blocks.{flat}
use Rattle.address_space.proofs.blocks.blocks_of.Given as goal

abbrev pub invariant-loop-rest : goal.invariant-loop-rest
invariant-loop-rest l = flat l.blocks.items ++ l.rest ≡ l.ranges

abbrev pub decreases-loop-rest : goal.decreases-loop-rest
decreases-loop-rest l = length l.rest
