use Rattle.thread_runs.proofs.ThreadsTheorem.{threads_followed}
use Rattle.thread_runs.proofs.laws.threads_step.Goals as goal

pub returns : goal.returns
returns c = threads_followed
