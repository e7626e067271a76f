use Rattle.settled_runs.proofs.BesideRuns.{beside_runs, settled_follows}
use Rattle.settled_runs.proofs.laws.settled_follows.Goals as goal

pub returns-clause-beside : goal.returns-clause-beside
returns-clause-beside c = beside_runs

pub returns-clause-follows : goal.returns-clause-follows
returns-clause-follows c = settled_follows
