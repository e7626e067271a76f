use Rattle.start_list.proofs.StandingJumps.{standing_jumps_lead}
use Rattle.start_list.proofs.laws.standing_jumps_lead.Goals as goal

pub returns : goal.returns
returns c = standing_jumps_lead
