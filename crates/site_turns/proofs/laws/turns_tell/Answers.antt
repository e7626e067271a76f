use Rattle.site_turns.proofs.TurnFold.{turns_tell}
use Rattle.site_turns.proofs.laws.turns_tell.Goals as goal

pub returns : goal.returns
returns c = turns_tell
