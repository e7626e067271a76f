use Rattle.site_turns.proofs.LedLines.{folded_leads}
use Rattle.site_turns.proofs.laws.folded_leads.Goals as goal

pub returns : goal.returns
returns c = folded_leads
