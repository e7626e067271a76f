use Rattle.commands.proofs.ReversedThreads.{judged_threads_are_reversed}
use Rattle.commands.proofs.LoadReversal.{judged_thread_loaders_are_reversed}
use Rattle.commands.proofs.laws.judged_threads_are_reversed.Goals as goal

pub returns-clause-plain : goal.returns-clause-plain
returns-clause-plain c = judged_threads_are_reversed

pub returns-clause-loader : goal.returns-clause-loader
returns-clause-loader c = judged_thread_loaders_are_reversed
