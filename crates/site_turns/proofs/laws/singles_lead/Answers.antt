use Rattle.site_turns.proofs.PlansWithOneJump.{singles_lead}
use Rattle.site_turns.proofs.laws.singles_lead.Goals as goal

pub returns : goal.returns
returns c = singles_lead
