use Rattle.settled_runs.proofs.PatchedFiles.{settled_is_followed, settled_is_followed_with}
use Rattle.settled_runs.proofs.laws.settled_is_followed.Goals as goal

pub returns-clause-plain : goal.returns-clause-plain
returns-clause-plain c = settled_is_followed

pub returns-clause-delivered : goal.returns-clause-delivered
returns-clause-delivered c = settled_is_followed_with
