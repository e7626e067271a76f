use Rattle.settled_runs.proofs.StartedFiles.{settled_starts}
use Rattle.settled_runs.proofs.laws.settled_starts.Goals as goal

pub returns : goal.returns
returns c = settled_starts
