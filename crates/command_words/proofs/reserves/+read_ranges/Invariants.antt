use Rattle.std.proofs.Common.{length}
use Rattle.command_words.proofs.reserves.+read_ranges.Given as goal

abbrev pub decreases-read_ranges : goal.decreases-read_ranges
decreases-read_ranges l = length l.words.now
