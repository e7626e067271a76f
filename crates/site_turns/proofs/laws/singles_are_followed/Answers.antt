use Rattle.site_turns.proofs.LoadedJobs.{singles_are_followed}
use Rattle.site_turns.proofs.laws.singles_are_followed.Goals as goal

pub returns : goal.returns
returns c = singles_are_followed
