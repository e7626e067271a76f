use Rattle.thread_laws.proofs.WaitingThreads.{threads_may_begin}
use Rattle.thread_laws.proofs.laws.threads_may_begin.Goals as goal

pub returns : goal.returns
returns c = threads_may_begin
