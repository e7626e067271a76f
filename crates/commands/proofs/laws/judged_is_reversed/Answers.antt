use Rattle.commands.proofs.ReversedPlans.{judged_is_reversed}
use Rattle.commands.proofs.laws.judged_is_reversed.Goals as goal

pub returns : goal.returns
returns c = judged_is_reversed
