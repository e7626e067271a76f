use Rattle.guest_findings.proofs.FollowedStates.{SoFar}
use Rattle.guest_findings.proofs.following.follow.Given as goal

abbrev pub invariant-loop-turn : goal.invariant-loop-turn
invariant-loop-turn l = SoFar l.fn.runner l.runner l.number l.turn
