use Rattle.site_turns.proofs.PlansOfT2.{behind_leads}
use Rattle.site_turns.proofs.laws.behind_leads.Goals as goal

pub returns : goal.returns
returns c = behind_leads
