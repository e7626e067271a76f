use Rattle.image_step.proofs.PlainScenarios.{refused_alike}
use Rattle.image_step.proofs.laws.scripts_are_refused_alike.Goals as goal

pub returns : goal.returns
returns c = refused_alike
