use Rattle.loader_form.proofs.LaidPages.{planned_ends_low}
use Rattle.loader_form.proofs.laws.planned_ends_low.Goals as goal

pub returns : goal.returns
returns c = planned_ends_low
