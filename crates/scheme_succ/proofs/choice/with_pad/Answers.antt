use Rattle.std.proofs.Common.{◌+◌, Option, subst}
use Rattle.scheme_search.specs.declared.shared.Pick.{Pick}
use Rattle.scheme_search.specs.Order.{FirstBy}
use Rattle.scheme_search.specs.Shared.{pick_order}
use Rattle.scheme_search.specs.Meetings.{IsChosen, MeetsFront}
use Rattle.scheme_succ.proofs.ChosenPlans.{is_meeting, first_with, none_with}
use Rattle.scheme_succ.proofs.choice.with_pad.Goals as goal

pub returns-in-Some : goal.returns-in-Some
returns-in-Some c =
    let here = c.args.here.now in
    let m = c.args.meeting.now in
    let found =
    subst (λ (o : Option Pick). FirstBy pick_order (IsChosen here.turn.space.now.taken
    (MeetsFront m) (here.turn.event_size + here.work) c.args.work) o) c.in-Some.is
    (rw c.tramp_size.ensures.value at c.front_first.ensures) in
    first_with here c.args.victim.now c.requires.beside c.args.pads m.pads m.pad c.requires.pads c.requires.victim_pads c.requires.rex
    c.requires.one_pad c.requires.few c.requires.open m c.requires.meeting c.args.work c.requires.work c.in-Some.pick found

pub returns-in-None : goal.returns-in-None
returns-in-None c =
    let here = c.args.here.now in
    let m = c.args.meeting.now in
    let none =
    subst (λ (o : Option Pick). FirstBy pick_order (IsChosen here.turn.space.now.taken
    (MeetsFront m) (here.turn.event_size + here.work) c.args.work) o) c.in-None.is
    (rw c.tramp_size.ensures.value at c.front_first.ensures) in
    none_with here c.args.victim.now c.requires.beside c.args.pads m.pads m.pad c.requires.pads c.requires.victim_pads c.requires.rex
    c.requires.one_pad c.requires.few c.requires.open m c.requires.meeting c.args.work c.requires.work none

pub front_first-requires-clause-meeting : goal.front_first-requires-clause-meeting
front_first-requires-clause-meeting c =
    let m = c.args.meeting.now in
    is_meeting c.args.here.now c.args.victim.now c.requires.beside c.args.pads m.pads
    m.pad c.requires.pads c.requires.victim_pads c.requires.rex.1 c.requires.few m c.requires.meeting
