use Rattle.thread_laws.proofs.OvertakenThreads.{overtaken_get_out}
use Rattle.thread_laws.proofs.laws.overtaken_get_out.Goals as goal

pub returns : goal.returns
returns c = overtaken_get_out
