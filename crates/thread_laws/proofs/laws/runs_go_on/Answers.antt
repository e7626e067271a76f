use Rattle.thread_laws.proofs.RunsGoOn.{runs_go_on}
use Rattle.thread_laws.proofs.laws.runs_go_on.Goals as goal

pub returns : goal.returns
returns c = runs_go_on
