use Rattle.thread_runs.proofs.WorkTails.{tail_step}
use Rattle.thread_runs.proofs.laws.tail_steps.Goals as goal

pub returns : goal.returns
returns c = tail_step
