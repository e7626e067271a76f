use Rattle.commands.proofs.ReversedThreads.{threads_are_reversed}
use Rattle.commands.proofs.LoadReversal.{loaded_threads_are_reversed}
use Rattle.commands.proofs.laws.threads_are_reversed.Goals as goal

pub returns-clause-plain : goal.returns-clause-plain
returns-clause-plain c = threads_are_reversed

pub returns-clause-loader : goal.returns-clause-loader
returns-clause-loader c = loaded_threads_are_reversed
