use Rattle.std.proofs.Common.{length}
use Rattle.command_words.proofs.synopses.+words_under.Given as goal

abbrev pub decreases-words_under : goal.decreases-words_under
decreases-words_under l = length l.commands.now
