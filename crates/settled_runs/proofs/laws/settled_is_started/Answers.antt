use Rattle.settled_runs.proofs.StartedRewritings.{settled_is_started}
use Rattle.settled_runs.proofs.laws.settled_is_started.Goals as goal

pub returns : goal.returns
returns c = settled_is_started
