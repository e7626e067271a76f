use Rattle.rewrite_core.proofs.HeadlineMoments.{said}
use Rattle.rewrite_core.proofs.laws.follows_said.Goals as goal

pub returns-clause-any_step : goal.returns-clause-any_step
returns-clause-any_step c = said

pub returns-clause-step : goal.returns-clause-step
returns-clause-step c = λ r a ts b us f. said r a ts b us f.ends_outside f.same
