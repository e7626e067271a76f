use Rattle.std.proofs.Common.{ℕ, ◌<◌, ◌≤◌, get_or}
use Rattle.address_space.specs.declared.block.Block.{Block}
use Rattle.address_space.proofs.search.long_block.Given as goal

abbrev pub invariant-loop-number : goal.invariant-loop-number
invariant-loop-number l = (k : ℕ) (d : Block) → l.first ≤ k → k < l.number → (get_or l.blocks k d).longest < l.size
