use Rattle.std.proofs.Common.{Option, subst}
use Rattle.scheme_search.specs.declared.shared.Pick.{Pick}
use Rattle.scheme_search.specs.Order.{FirstBy}
use Rattle.scheme_search.specs.Shared.{pick_order, IsPickIn}
use Rattle.scheme_search.proofs.MeetingPicks.{back_found}
use Rattle.scheme_search.proofs.meeting.back_first.Goals as goal

pub returns-in-Some : goal.returns-in-Some
returns-in-Some c =
    let w = c.ways_of-ways.result in
    let found =
    subst (λ (o : Option Pick). FirstBy pick_order
    (IsPickIn c.args.space.now.taken w.back w.front 0 w.turn) o) c.in-Some.is c.first_pick.ensures in
    (back_found c.args.space.now.taken c.args.meeting.now c.requires.meeting c.args.front c.args.back w c.ways_of-ways.ensures).here
    c.in-Some.pick found

pub returns-in-None : goal.returns-in-None
returns-in-None c =
    let w = c.ways_of-ways.result in
    let none = subst (λ (o : Option Pick). FirstBy pick_order
    (IsPickIn c.args.space.now.taken w.back w.front 0 w.turn) o) c.in-None.is c.first_pick.ensures in
    (back_found c.args.space.now.taken c.args.meeting.now c.requires.meeting c.args.front c.args.back w
    c.ways_of-ways.ensures).beyond none c.first_pick-in-None.result c.first_pick-in-None.ensures
