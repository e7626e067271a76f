use Rattle.std.proofs.Common.{ℕ, pos, ◌+◌, ◌+ℤ◌, List, [], length, sym, ap, ◌∙◌, subst, arith}
use Rattle.std.proofs.lemmas.Int.{ints}
use Rattle.jump_form.specs.Jumps.{AreBytes}
use Rattle.jump_form.specs.Windows.{lowest_displacement}
use Rattle.scheme_search.specs.Meetings.{high_bytes}
use Rattle.scheme_search.proofs.MeetingPicks.{signed_bounds, whole_small}
use Rattle.scheme_search.proofs.MeetingBytes.{length-high_bytes, high_are_bytes}
use Rattle.scheme_search.proofs.meeting.front_low.Goals as goal

pub lowest_target-requires-clause-four : goal.lowest_target-requires-clause-four
lowest_target-requires-clause-four c =
    let high = c.as_slice.ensures.value ∙ c.first_high-high.ensures in
    ap (λ (bs : List ℕ). c.args.meeting.now.own + length bs) high ∙ length-high_bytes c.args.meeting.now c.requires 0

pub lowest_target-requires-clause-small : goal.lowest_target-requires-clause-small
lowest_target-requires-clause-small c =
    let high = c.as_slice.ensures.value ∙ c.first_high-high.ensures in
    subst (λ (bs : List ℕ). AreBytes bs) (sym high) (high_are_bytes c.args.meeting.now c.requires 0)

pub returns : goal.returns
returns c =
    let m = c.args.meeting.now in
    let high = c.as_slice.ensures.value ∙ c.first_high-high.ensures in
    let low = c.lowest_target.ensures ∙ ap (λ (bs : List ℕ). pos m.front_next +ℤ lowest_displacement [] m.own bs) high in
    let b = signed_bounds _ (whole_small m.own (high_bytes m 0) (length-high_bytes m c.requires 0) (high_are_bytes m c.requires 0)) in
    omega (arith, ints, low, b.0, b.1, c.requires.front.1)
