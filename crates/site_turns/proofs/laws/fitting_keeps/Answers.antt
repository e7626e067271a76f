use Rattle.site_turns.proofs.FittingAdditions.{fitting_keeps}
use Rattle.site_turns.proofs.laws.fitting_keeps.Goals as goal

pub returns : goal.returns
returns c = fitting_keeps
