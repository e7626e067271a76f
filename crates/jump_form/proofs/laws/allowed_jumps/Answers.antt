use Rattle.jump_form.proofs.AllowedTargets.{allowed_jumps}
use Rattle.jump_form.proofs.laws.allowed_jumps.Goals as goal

pub returns : goal.returns
returns c = allowed_jumps
