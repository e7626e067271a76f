use Rattle.event_steps.proofs.ThreadSteps.{thread_step}
use Rattle.thread_runs.proofs.laws.thread_step.Goals as goal

pub returns : goal.returns
returns c = thread_step
