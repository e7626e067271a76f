use Rattle.site_turns.proofs.PlannedFiles.{planned_is_written_well}
use Rattle.site_turns.proofs.laws.planned_is_written_well.Goals as goal

pub returns : goal.returns
returns c = planned_is_written_well
