use Rattle.site_turns.proofs.LeftSites.{holds_first}
use Rattle.site_turns.proofs.laws.holds_first.Goals as goal

pub returns : goal.returns
returns c = holds_first
