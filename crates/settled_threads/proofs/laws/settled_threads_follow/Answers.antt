use Rattle.settled_threads.proofs.FollowedThreads.{settled_threads_follow}
use Rattle.settled_threads.proofs.laws.settled_threads_follow.Goals as goal

pub returns : goal.returns
returns c = settled_threads_follow
