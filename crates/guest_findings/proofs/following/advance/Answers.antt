use Rattle.guest_findings.proofs.FollowedStates.{one_step}
use Rattle.guest_findings.proofs.following.advance.Goals as goal

pub returns-clause-shows : goal.returns-clause-shows
returns-clause-shows c = λ s ts h.
    let g = c.run.ensures.goes s ts h in
    let end = c.run.result in
    one_step c.run.new.self s ts g.more end.steps end.stop c.is_none.result g.shows g.steps g.ends c.is_none.ensures
