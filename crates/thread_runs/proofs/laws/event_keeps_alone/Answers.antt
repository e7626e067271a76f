use Rattle.thread_runs.proofs.LoneEvents.{keeps_alone}
use Rattle.thread_runs.proofs.laws.event_keeps_alone.Goals as goal

pub returns : goal.returns
returns c = keeps_alone
