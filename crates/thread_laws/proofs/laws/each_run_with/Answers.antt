use Rattle.thread_laws.proofs.WatchedDeliveredRuns.{each_run_with}
use Rattle.thread_laws.proofs.laws.each_run_with.Goals as goal

pub returns : goal.returns
returns c = each_run_with
