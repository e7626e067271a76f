use Rattle.site_turns.proofs.AdmissiblePlans.{plan_keeps}
use Rattle.site_turns.proofs.laws.plan_keeps.Goals as goal

pub returns : goal.returns
returns c = plan_keeps
