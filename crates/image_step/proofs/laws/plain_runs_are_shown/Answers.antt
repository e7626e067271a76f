use Rattle.image_step.proofs.Steps.{shows_plain}
use Rattle.image_step.proofs.laws.plain_runs_are_shown.Goals as goal

pub returns : goal.returns
returns c = shows_plain
