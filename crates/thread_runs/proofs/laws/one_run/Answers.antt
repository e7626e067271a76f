use Rattle.thread_runs.proofs.RunUniqueness.{one_way}
use Rattle.thread_runs.proofs.laws.one_run.Goals as goal

pub returns : goal.returns
returns c = one_way
