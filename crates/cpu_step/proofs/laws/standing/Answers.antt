use Rattle.cpu_step.proofs.JudgedSteps.{judged_there}
use Rattle.cpu_step.proofs.StopsWithoutInstruction.{by_missing, by_unknown}
use Rattle.cpu_step.proofs.laws.standing.Goals as goal

pub returns-clause-plan : goal.returns-clause-plan
returns-clause-plan c = judged_there

pub returns-clause-missing : goal.returns-clause-missing
returns-clause-missing c = by_missing

pub returns-clause-unknown : goal.returns-clause-unknown
returns-clause-unknown c = by_unknown
