use Rattle.settled_threads.proofs.BackSteps.{steps_come_back}
use Rattle.settled_threads.proofs.BackRuns.{runs_come_back}
use Rattle.settled_threads.proofs.laws.runs_come_back.Goals as goal

pub returns-clause-step : goal.returns-clause-step
returns-clause-step c = steps_come_back

pub returns-clause-run : goal.returns-clause-run
returns-clause-run c = runs_come_back
