use Rattle.thread_check.proofs.RulesForThreads.{thread_case_is_followed}
use Rattle.thread_check.proofs.laws.thread_case_is_followed.Goals as goal

pub returns : goal.returns
returns c = thread_case_is_followed
