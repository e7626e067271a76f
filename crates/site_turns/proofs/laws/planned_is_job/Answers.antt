use Rattle.site_turns.proofs.PlannedJobs.{planned_is_job}
use Rattle.site_turns.proofs.laws.planned_is_job.Goals as goal

pub returns : goal.returns
returns c = planned_is_job
