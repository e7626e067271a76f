use Rattle.site_turns.proofs.LoadedJobs.{job_loads}
use Rattle.site_turns.proofs.laws.job_loads.Goals as goal

pub returns : goal.returns
returns c = job_loads
