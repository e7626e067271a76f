use Rattle.jump_form.proofs.AllowedTargets.{allowed_targets}
use Rattle.jump_form.proofs.laws.allowed_targets.Goals as goal

pub returns : goal.returns
returns c = allowed_targets
