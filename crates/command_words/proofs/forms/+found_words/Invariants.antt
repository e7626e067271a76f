use Rattle.std.proofs.Common.{length}
use Rattle.command_words.proofs.forms.+found_words.Given as goal

abbrev pub decreases-found_words : goal.decreases-found_words
decreases-found_words l = length l.names.now
