use Rattle.site_turns.proofs.LoadedJobs.{all_are_followed}
use Rattle.site_turns.proofs.laws.all_are_followed.Goals as goal

pub returns : goal.returns
returns c = all_are_followed
