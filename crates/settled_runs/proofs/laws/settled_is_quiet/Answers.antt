use Rattle.settled_runs.proofs.QuietStub.{settled_is_quiet, settled_is_patched, settled_goes_on}
use Rattle.settled_runs.proofs.laws.settled_is_quiet.Goals as goal

pub returns-clause-quiet : goal.returns-clause-quiet
returns-clause-quiet c = settled_is_quiet

pub returns-clause-patched : goal.returns-clause-patched
returns-clause-patched c = settled_is_patched

pub returns-clause-delivered : goal.returns-clause-delivered
returns-clause-delivered c = settled_goes_on
