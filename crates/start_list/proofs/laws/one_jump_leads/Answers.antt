use Rattle.start_list.proofs.StandingJumps.{one_jump_leads}
use Rattle.start_list.proofs.laws.one_jump_leads.Goals as goal

pub returns : goal.returns
returns c = one_jump_leads
