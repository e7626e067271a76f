use Rattle.site_turns.proofs.LeftSites.{left_keeps}
use Rattle.site_turns.proofs.laws.left_keeps.Goals as goal

pub returns : goal.returns
returns c = left_keeps
