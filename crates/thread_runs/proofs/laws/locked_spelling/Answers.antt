use Rattle.thread_runs.proofs.LockIncSpelling.{locked_spelled, lock_untested, xadd_spelled}
use Rattle.thread_runs.proofs.laws.locked_spelling.Goals as goal

pub returns-clause-spelled : goal.returns-clause-spelled
returns-clause-spelled c = locked_spelled

pub returns-clause-untested : goal.returns-clause-untested
returns-clause-untested c = lock_untested

pub returns-clause-exchanging : goal.returns-clause-exchanging
returns-clause-exchanging c = xadd_spelled
