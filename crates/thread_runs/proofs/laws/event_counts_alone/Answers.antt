use Rattle.thread_runs.proofs.LoneEvents.{counts_alone}
use Rattle.thread_runs.proofs.laws.event_counts_alone.Goals as goal

pub returns : goal.returns
returns c = counts_alone
