use Rattle.std.proofs.Common.{length}
use Rattle.command_words.proofs.forms.+with_forms.Given as goal

abbrev pub decreases-with_forms : goal.decreases-with_forms
decreases-with_forms l = length l.commands.now
