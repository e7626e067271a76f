use Rattle.settled_threads.proofs.LoadedThreads.{settled_threads_load}
use Rattle.settled_threads.proofs.laws.settled_threads_load.Goals as goal

pub returns : goal.returns
returns c = settled_threads_load
