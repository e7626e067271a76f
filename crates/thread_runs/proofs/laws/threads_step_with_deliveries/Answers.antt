use Rattle.thread_runs.proofs.ThreadsTheorem.{threads_followed_with}
use Rattle.thread_runs.proofs.laws.threads_step_with_deliveries.Goals as goal

pub returns : goal.returns
returns c = threads_followed_with
