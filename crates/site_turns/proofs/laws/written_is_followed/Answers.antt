use Rattle.site_turns.proofs.LoadedJobs.{written_is_followed}
use Rattle.site_turns.proofs.laws.written_is_followed.Goals as goal

pub returns : goal.returns
returns c = written_is_followed
