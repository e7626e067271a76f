use Rattle.site_turns.proofs.PlansOfT3.{near_leads}
use Rattle.site_turns.proofs.laws.near_leads.Goals as goal

pub returns : goal.returns
returns c = near_leads
