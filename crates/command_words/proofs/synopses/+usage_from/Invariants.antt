use Rattle.std.proofs.Common.{length}
use Rattle.command_words.proofs.synopses.+usage_from.Given as goal

abbrev pub decreases-usage_from : goal.decreases-usage_from
decreases-usage_from l = length l.commands.now
