use Rattle.thread_runs.proofs.SiteEventSteps.{are_lists, site_step_told, site_step_goes}
use Rattle.thread_runs.proofs.laws.site_steps.Goals as goal

pub returns-clause-lists : goal.returns-clause-lists
returns-clause-lists c = are_lists

pub returns-clause-told : goal.returns-clause-told
returns-clause-told c = site_step_told

pub returns-clause-goes : goal.returns-clause-goes
returns-clause-goes c = site_step_goes
