use Rattle.thread_laws.proofs.WorkedVictim.{victim_is_real}
use Rattle.thread_laws.proofs.laws.victim_is_real.Goals as goal

pub returns : goal.returns
returns c = victim_is_real
