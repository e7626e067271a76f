use Rattle.thread_laws.proofs.WorkedCondition.{condition_is_real}
use Rattle.thread_laws.proofs.laws.condition_is_real.Goals as goal

pub returns : goal.returns
returns c = condition_is_real
