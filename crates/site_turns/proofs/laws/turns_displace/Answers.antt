use Rattle.site_turns.proofs.DisplacedLines.{turns_displace}
use Rattle.site_turns.proofs.laws.turns_displace.Goals as goal

pub returns : goal.returns
returns c = turns_displace
