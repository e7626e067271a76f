use Rattle.std.proofs.Common.{length}
use Rattle.settle.proofs.choosing.+largest_align.Given as goal

abbrev pub decreases-largest_align : goal.decreases-largest_align
decreases-largest_align l = length l.entries.now
