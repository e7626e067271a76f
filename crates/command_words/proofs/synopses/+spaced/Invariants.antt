use Rattle.std.proofs.Common.{length}
use Rattle.command_words.proofs.synopses.+spaced.Given as goal

abbrev pub decreases-spaced : goal.decreases-spaced
decreases-spaced l = length l.words.now
