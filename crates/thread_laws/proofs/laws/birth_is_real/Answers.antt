use Rattle.thread_laws.proofs.WorkedBirth.{birth_is_real}
use Rattle.thread_laws.proofs.laws.birth_is_real.Goals as goal

pub returns : goal.returns
returns c = birth_is_real
