use Rattle.site_turns.proofs.PlannedJobs.{planned_can_be_written}
use Rattle.site_turns.proofs.laws.planned_can_be_written.Goals as goal

pub returns : goal.returns
returns c = planned_can_be_written
