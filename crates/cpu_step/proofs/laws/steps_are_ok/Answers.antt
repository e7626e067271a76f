use Rattle.cpu_step.proofs.JudgedSteps.{steps_are_ok}
use Rattle.cpu_step.proofs.laws.steps_are_ok.Goals as goal

pub returns : goal.returns
returns c = steps_are_ok
