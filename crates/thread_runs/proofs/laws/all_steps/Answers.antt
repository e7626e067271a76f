use Rattle.thread_runs.proofs.AllStepLaws.{step_laws}
use Rattle.thread_runs.proofs.laws.all_steps.Goals as goal

pub returns : goal.returns
returns c = step_laws
