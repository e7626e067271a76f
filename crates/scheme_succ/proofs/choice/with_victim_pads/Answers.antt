use Rattle.std.proofs.Common.{ℕ, refl, sym, ◌∙◌, subst, true≢false}
use Rattle.start_list.specs.Turning.{view_of}
use Rattle.scheme_search.specs.Order.{IsFirstBy}
use Rattle.scheme_search.specs.Shared.{by_pick}
use Rattle.scheme_search.proofs.FirstChoice.{first_at, none_next}
use Rattle.scheme_succ.specs.declared.choice.Choice.{Choice}
use Rattle.scheme_succ.specs.Choices.{IsGoodBehind, IsGoodWith, pad_of}
use Rattle.scheme_succ.proofs.ChosenPlans.{good_open}
use Rattle.scheme_succ.proofs.choice.with_victim_pads.Goals as goal

pub returns-in-Some : goal.returns-in-Some
returns-in-Some c =
    let v = view_of c.args.here.now.turn in
    let site = c.args.here.now.site in
    let e = c.args.victim.now in
    first_at pad_of (by_pick (λ (d : Choice). d.pick)) (IsGoodBehind v site e c.args.pads c.args.victim_pads) c.loop-pad.pad c.in-Some.choice
    (λ d h. c.loop-pad.invariant.none d h)
    (subst (λ (q : ℕ). IsFirstBy (by_pick (λ (d : Choice). d.pick)) (IsGoodWith v site e c.args.pads q c.loop-pad.pad) c.in-Some.choice)
    c.loop-pad.invariant.meeting.pads c.in-Some.ensures)

pub returns-then-not-is_open : goal.returns-then-not-is_open
returns-then-not-is_open c = λ d h.
    let o = good_open c.args.here.now c.args.victim.now c.requires.beside c.args.pads
    c.args.victim_pads d h in
    true≢false (sym (c.is_open.ensures.1 o) ∙ c.if-not-is_open.true)

pub loop-pad-preserved : goal.loop-pad-preserved
loop-pad-preserved c =
    let v = view_of c.args.here.now.turn in
    let site = c.args.here.now.site in
    let e = c.args.victim.now in
    let m = c.loop-pad.invariant.meeting in
    record {
      none = none_next pad_of (by_pick (λ (d : Choice). d.pick)) (IsGoodBehind v site e c.args.pads c.args.victim_pads) c.loop-pad.pad
          (λ d h. c.loop-pad.invariant.none d h)
          (λ d h. c.in_default.ensures d (subst (λ (q : ℕ). IsGoodWith v site e c.args.pads q c.loop-pad.pad d) (sym m.pads) h));
      meeting = record {
        front = m.front;
        own = m.own;
        pads = m.pads;
        byte = refl;
        ends = record { back = m.ends.back; back_own = m.ends.back_own; fixed = m.ends.fixed; long = m.ends.long; small = m.ends.small };
      };
    }
