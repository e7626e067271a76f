use Rattle.std.proofs.Common.{◌+◌, Option, subst}
use Rattle.scheme_search.specs.declared.shared.Pick.{Pick}
use Rattle.scheme_search.specs.Order.{FirstBy}
use Rattle.scheme_search.specs.Shared.{pick_order}
use Rattle.scheme_search.specs.Meetings.{IsChosen, MeetsBack}
use Rattle.scheme_near.proofs.ChosenPlans.{is_meeting, first_with, none_with}
use Rattle.scheme_near.proofs.choice.at_place.Goals as goal

pub returns-in-Some : goal.returns-in-Some
returns-in-Some c =
    let here = c.args.here.now in
    let found =
    subst (λ (o : Option Pick). FirstBy pick_order (IsChosen here.turn.space.now.taken
    (MeetsBack c.meeting_of-meeting.result) (here.turn.event_size + here.work) c.args.work) o) c.in-Some.is
    (rw c.tramp_size.ensures.value at c.back_first.ensures) in
    first_with here c.args.victim.now c.requires.beside c.requires.room c.args.offset
    c.requires.inside c.requires.near c.requires.unlisted c.requires.open c.meeting_of-meeting.result c.meeting_of-meeting.ensures
    c.args.work c.requires.work c.in-Some.pick found

pub returns-in-None : goal.returns-in-None
returns-in-None c =
    let here = c.args.here.now in
    let none =
    subst (λ (o : Option Pick). FirstBy pick_order (IsChosen here.turn.space.now.taken
    (MeetsBack c.meeting_of-meeting.result) (here.turn.event_size + here.work) c.args.work) o) c.in-None.is
    (rw c.tramp_size.ensures.value at c.back_first.ensures) in
    none_with here c.args.victim.now c.requires.beside c.requires.room c.args.offset
    c.requires.inside c.requires.near c.requires.unlisted c.requires.open c.meeting_of-meeting.result c.meeting_of-meeting.ensures
    c.args.work c.requires.work none

pub back_first-requires-clause-meeting : goal.back_first-requires-clause-meeting
back_first-requires-clause-meeting c =
    is_meeting c.args.here.now c.args.victim.now c.requires.beside c.args.offset c.requires.inside
    c.meeting_of-meeting.result c.meeting_of-meeting.ensures
