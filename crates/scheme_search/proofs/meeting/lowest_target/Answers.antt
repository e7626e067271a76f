use Rattle.std.proofs.Common.{◌≡◌, ℕ, ℤ, ◌+◌, ◌-◌, ◌≤ℤ◌, ◌<ℤ◌, ◌↔◌, [], subst, arith}
use Rattle.std.proofs.lemmas.Int.{ints}
use Rattle.jump_form.specs.Windows.{IsAllowed}
use Rattle.scheme_search.proofs.MeetingPicks.{signed_bounds, whole_small, window_low}
use Rattle.scheme_search.proofs.meeting.lowest_target.Goals as goal

pub returns : goal.returns
returns c =
    let next = c.args.next in
    let own = c.args.own in
    let fixed = c.args.fixed.now in
    let lo = c.window.result.lo in
    let hi = c.window.result.hi in
    let end : next - 5 + 0 + 5 ≡ next = omega (arith, c.requires.next.0) in
    let Next : ℕ → Type 0 = λ k. (target : ℤ) → IsAllowed k [] own fixed target ↔ ((lo ≤ℤ target) × (target <ℤ hi)) in
    let low = window_low next own fixed lo hi c.requires.four c.requires.small (subst Next end c.window.ensures) in
    let b = signed_bounds _ (whole_small own fixed c.requires.four c.requires.small) in
    omega (arith, ints, low, b.0, b.1, c.requires.next.1)
