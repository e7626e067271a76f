use Rattle.std.proofs.Common.{length}
use Rattle.cpu_state.proofs.processor.+entry_words.Given as goal

abbrev pub decreases-entry_words : goal.decreases-entry_words
decreases-entry_words l = length l.entries.now
