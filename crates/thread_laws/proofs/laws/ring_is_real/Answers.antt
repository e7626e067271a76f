use Rattle.thread_laws.proofs.WorkedRingRun.{ring_is_real}
use Rattle.thread_laws.proofs.laws.ring_is_real.Goals as goal

pub returns : goal.returns
returns c = ring_is_real
