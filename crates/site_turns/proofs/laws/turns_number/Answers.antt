use Rattle.site_turns.proofs.NumberedEvents.{turns_number}
use Rattle.site_turns.proofs.laws.turns_number.Goals as goal

pub returns : goal.returns
returns c = turns_number
