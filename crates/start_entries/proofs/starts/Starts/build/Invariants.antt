use Rattle.std.proofs.Common.{length}
use Rattle.start_entries.proofs.StartsSoFar.{Walked}
use Rattle.start_entries.proofs.starts.Starts.build.Given as goal

abbrev pub invariant-loop-addr : goal.invariant-loop-addr
invariant-loop-addr l = Walked l.elf.bytes l.starts l.items.items l.reached l.left

abbrev pub decreases-loop-addr : goal.decreases-loop-addr
decreases-loop-addr l = length l.left
