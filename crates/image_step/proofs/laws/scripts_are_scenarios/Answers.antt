use Rattle.image_step.proofs.PlainScenarios.{scenario_same}
use Rattle.image_step.proofs.laws.scripts_are_scenarios.Goals as goal

pub returns : goal.returns
returns c = scenario_same
