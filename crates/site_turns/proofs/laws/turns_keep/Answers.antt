use Rattle.site_turns.proofs.TurnFold.{turns_keep}
use Rattle.site_turns.proofs.laws.turns_keep.Goals as goal

pub returns : goal.returns
returns c = turns_keep
