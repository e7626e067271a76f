use Rattle.std.proofs.Common.{length}
use Rattle.cpu_state.proofs.processor.+words.Given as goal

abbrev pub decreases-words : goal.decreases-words
decreases-words l = length l.given.now
