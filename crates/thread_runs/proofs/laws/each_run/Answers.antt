use Rattle.thread_runs.proofs.WatchedRuns.{each_run}
use Rattle.thread_runs.proofs.laws.each_run.Goals as goal

pub returns : goal.returns
returns c = each_run
